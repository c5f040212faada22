-- The depths of G84 add up to the infeed less the allowance.
-- Assumes nothing.
use mathlib.Core.Path.{◌≡◌, refl, sym, ap, ◌∙◌}
use mathlib.Core.Bool.{Bool, true, false}
use mathlib.Core.List.{List, [], ◌∷◌, ◌++◌}
use Prim.Native.Nat.{ℕ, ◌+◌, ◌<◌}
use native.Mathlib.Omega.{arith}
use lib.Dec.{eqb}
use lib.IntN.{ℤ, ◌+ℤ◌, ◌-ℤ◌, nat_abs}
use borrow.Author.Tests.{eqb-true}
use Rattle.whole.specs.Signed.{along}
use Rattle.whole.proofs.Sides.{along_add, along_zero}
use Rattle.division.proofs.Divisions.{pieces_sum}
use Rattle.moves.specs.declared.Record.{Record}
use Rattle.axes.specs.Axis.{side, net, allowance_line}
use Rattle.axes.specs.Goes.{rapid_to, feed_to}
use Rattle.axes.proofs.Axes.{Sided, sided}
use Rattle.turning.specs.declared.Turning.{Turning}
use Rattle.turning.specs.Turning.{too_short, pass_count, row, pass_for, pass_on, passes, turning}
use Rattle.turning.proofs.Asked.{long_enough}
use Rattle.turning.proofs.Counts.{few_passes}
use Rattle.turning.proofs.Turned.{rapid_reads, feed_reads, some_passes}
use Rattle.strokes.specs.Strokes.{Inward, lines_at, depths_at, Above, AddUp, Cut, cut, DepthsAddUp}
use Rattle.strokes.proofs.Reading.{passed_over, elsewhere, back_home, one_line, lines_of, adds_up, untouched_at, on_way, same_place, pieces_above}

abbrev pub way : Turning → Inward
way c = record { facing = c.facing; start = c.infeed.start; side = side c.infeed; stroke = net c.infeed }

module _ (c : Turning) (a : ℤ) where
  end : ℤ
  end = allowance_line c.path

  from : ℤ
  from = c.infeed.start

  no_lines : lines_at (way c) a [] ≡ []
  unfolding lines_at
  no_lines = refl

  -- a pass is one line at the end line, and none elsewhere
  pass_line : nat_abs (end -ℤ a) ≡ 0 → (l : ℤ) → 0 < nat_abs (l -ℤ from) → (rs : List Record) → lines_at (way c) a (pass_on (pass_for c) l ++ rs) ≡ l ∷ lines_at (way c) a rs
  unfolding pass_on end from
  pass_line e l h rs =
      let home : List Record = rapid_to c.facing c.infeed.start c.path.start ∷ rs in
      let out : List Record = feed_to c.facing c.f c.g95 c.infeed.start (allowance_line c.path) ∷ home in
      passed_over (way c) a (rapid_reads c.facing l c.path.start) (feed_to c.facing c.f c.g95 l (allowance_line c.path) ∷ out) refl
      ∙ one_line (way c) a (feed_reads c.facing c.f c.g95 l (allowance_line c.path)) out refl e h
      ∙ ap (λ (k : List ℤ). l ∷ k)
      (back_home (way c) a (feed_reads c.facing c.f c.g95 c.infeed.start (allowance_line c.path)) home (same_place c.infeed.start)
      ∙ passed_over (way c) a (rapid_reads c.facing c.infeed.start c.path.start) rs refl)

  pass_none : eqb (nat_abs (end -ℤ a)) 0 ≡ false → (l : ℤ) (rs : List Record) → lines_at (way c) a (pass_on (pass_for c) l ++ rs) ≡ lines_at (way c) a rs
  unfolding pass_on end
  pass_none e l rs =
      let home : List Record = rapid_to c.facing c.infeed.start c.path.start ∷ rs in
      let out : List Record = feed_to c.facing c.f c.g95 c.infeed.start (allowance_line c.path) ∷ home in
      passed_over (way c) a (rapid_reads c.facing l c.path.start) (feed_to c.facing c.f c.g95 l (allowance_line c.path) ∷ out) refl
      ∙ elsewhere (way c) a (feed_reads c.facing c.f c.g95 l (allowance_line c.path)) out e
      ∙ elsewhere (way c) a (feed_reads c.facing c.f c.g95 c.infeed.start (allowance_line c.path)) home e
      ∙ passed_over (way c) a (rapid_reads c.facing c.infeed.start c.path.start) rs refl

  passes_lines : Sided (side c.infeed) → nat_abs (end -ℤ a) ≡ 0 → (m : ℕ) (ds : List ℕ) → Above ds
      → lines_at (way c) a (passes (pass_on (pass_for c)) (side c.infeed) (c.infeed.start +ℤ along (side c.infeed) m) ds) ≡ lines_of (way c) m ds
  unfolding passes lines_of from
  passes_lines s e m [] h = no_lines
  passes_lines s e m (d ∷ ds) h =
      let t = side c.infeed in
      let l : ℤ = c.infeed.start +ℤ along t (m + d) in
      ap (λ (z : ℤ). lines_at (way c) a (pass_on (pass_for c) z ++ passes (pass_on (pass_for c)) t z ds)) (along_add c.infeed.start t m d)
      ∙ pass_line e l (on_way (way c) s (m + d) (omega (arith, h.0))) (passes (pass_on (pass_for c)) t l ds)
      ∙ ap (λ (k : List ℤ). l ∷ k) (passes_lines s e (m + d) ds h.1)

  passes_none : eqb (nat_abs (end -ℤ a)) 0 ≡ false → (l : ℤ) (ds : List ℕ) → lines_at (way c) a (passes (pass_on (pass_for c)) (side c.infeed) l ds) ≡ []
  unfolding passes
  passes_none e l [] = no_lines
  passes_none e l (d ∷ ds) =
      let k : ℤ = l +ℤ along (side c.infeed) d in
      pass_none e k (passes (pass_on (pass_for c)) (side c.infeed) k ds) ∙ passes_none e k ds

  here : 0 < net c.infeed → nat_abs (end -ℤ a) ≡ 0 → AddUp (net c.infeed) (depths_at (way c) a (turning c))
  unfolding turning
  here h e =
      let n = pass_count (net c.infeed) c.division in
      let p = some_passes (net c.infeed) c.division h in
      let s = sided (c.infeed.target -ℤ c.infeed.start) (omega arith) in
      let u = pieces_above (net c.infeed) n p (few_passes (net c.infeed) c.division h) in
      adds_up (way c) s a (passes (pass_on (pass_for c)) (side c.infeed) c.infeed.start (row c)) (row c)
      (ap (λ (z : ℤ). lines_at (way c) a (passes (pass_on (pass_for c)) (side c.infeed) z (row c))) (sym (along_zero c.infeed.start (side c.infeed))) ∙ passes_lines s e 0 (row c) u) u
      (pieces_sum (net c.infeed) n p)

  anywhere : 0 < net c.infeed → Cut (net c.infeed) (depths_at (way c) a (turning c))
  unfolding turning
  anywhere h = go (eqb (nat_abs (end -ℤ a)) 0) refl
    where
      go : (t : Bool) → eqb (nat_abs (end -ℤ a)) 0 ≡ t → Cut (net c.infeed) (depths_at (way c) a (passes (pass_on (pass_for c)) (side c.infeed) c.infeed.start (row c)))
      go true e = cut (here h (eqb-true (nat_abs (end -ℤ a)) 0 e))
      go false e = untouched_at (way c) a (passes (pass_on (pass_for c)) (side c.infeed) c.infeed.start (row c)) (passes_none e c.infeed.start (row c))

-- ---- G84
pub turned : (c : Turning) → too_short c ≡ false → DepthsAddUp (way c) (turning c)
unfolding end
turned c q =
    let h = (long_enough c q).0 in
    record { place = allowance_line c.path; there = here c (allowance_line c.path) h (same_place (allowance_line c.path)); each = λ a. anywhere c a h }
