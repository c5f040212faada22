-- The depths of each plunge of G86 add up to the depth.
-- Assumes nothing.
use mathlib.Core.Path.{◌≡◌, refl, sym, ap, ◌∙◌, subst}
use mathlib.Core.Bool.{Bool, true, false, cond}
use mathlib.Core.List.{List, [], ◌∷◌, ◌++◌, append-nil}
use Prim.Native.Nat.{ℕ, zero, suc, ◌+◌, ◌-◌, ◌<◌}
use native.Mathlib.Omega.{arith}
use lib.Dec.{eqb}
use lib.IntN.{ℤ, pos, ◌+ℤ◌, ◌-ℤ◌, nat_abs, neg_ℤ}
use lib.Signed.{◌≤ℤ◌}
use borrow.Author.Tests.{eqb-true, ne_eqb}
use Rattle.whole.specs.declared.Side.TheVariants.{Minus}
use Rattle.whole.specs.Signed.{along}
use Rattle.whole.proofs.Integers.{whole, add_in, sub_in, up_neg, down_neg, abs}
use Rattle.moves.specs.declared.Record.{Record}
use Rattle.axes.specs.Goes.{dwell_at}
use Rattle.axes.proofs.Axes.{Sided, sided}
use Rattle.turning.proofs.Turned.{rapid_reads, feed_reads}
use Rattle.grooving.specs.declared.Groove.{Groove}
use Rattle.grooving.specs.Grooving.{length_of, way_of, wrong, rest, step_count, steps, cut_count, cuts, out_to, deep_at, cutting, dwelling, plunge, plunges, after_first, grooving}
use Rattle.grooving.proofs.Asked.{asked}
use Rattle.grooving.proofs.Rows.{some_cuts, few_cuts, cuts_sum, no_steps, steps_are, some_steps, few_steps}
use Rattle.strokes.specs.Strokes.{Inward, lines_at, depths_at, Above, AddUp, Cut, cut, DepthsAddUp}
use Rattle.strokes.proofs.Reading.{dwell_reads, passed_over, elsewhere, one_line, lines_append, lines_of, adds_up, untouched_at, on_way, same_place, no_distance, pieces_above}

abbrev pub way : Groove → Inward
way g = record { facing = g.facing; start = g.depth.start; side = way_of g.depth; stroke = length_of g.depth }

steps_above : (g : Groove) → wrong g ≡ false → Above (steps g)
steps_above g q = go (rest g) refl
  where
    go : (n : ℕ) → rest g ≡ n → Above (steps g)
    go zero e = subst Above (sym (no_steps g e).1) tt
    go (suc n) e =
        let h : 0 < rest g = omega arith in
        subst Above (sym (steps_are g h)) (pieces_above (rest g) (step_count g) (some_steps g q h) (few_steps g q))

module _ (g : Groove) (a : ℤ) where
  no_lines : lines_at (way g) a [] ≡ []
  unfolding lines_at
  no_lines = refl

  out_none : (w z : ℤ) (rs : List Record) → lines_at (way g) a (out_to g w z ∷ rs) ≡ lines_at (way g) a rs
  out_none w z rs = passed_over (way g) a (rapid_reads g.facing z w) rs refl

  dwelling_none : (w : ℤ) (rs : List Record) → lines_at (way g) a (dwelling g w ++ rs) ≡ lines_at (way g) a rs
  unfolding dwelling
  dwelling_none w rs = go (eqb g.dwell 0)
    where
      go : (t : Bool) → lines_at (way g) a (cond t [] (dwell_at g.facing g.dwell g.depth.target w ∷ []) ++ rs) ≡ lines_at (way g) a rs
      go true = refl
      go false = passed_over (way g) a (dwell_reads g.facing g.dwell g.depth.target w) rs refl

  cutting_lines : Sided (way_of g.depth) → (w : ℤ) → nat_abs (w -ℤ a) ≡ 0 → (t : ℕ) (ds : List ℕ) → Above ds → lines_at (way g) a (cutting g w t ds) ≡ lines_of (way g) t ds
  unfolding cutting lines_of
  cutting_lines s w e t [] h = no_lines
  cutting_lines s w e t (d ∷ []) h =
      one_line (way g) a (feed_reads g.facing g.f g.g95 (deep_at g (t + d)) w) [] refl e (on_way (way g) s (t + d) (omega (arith, h.0)))
      ∙ ap (λ (l : List ℤ). deep_at g (t + d) ∷ l) no_lines
  cutting_lines s w e t (d ∷ (d' ∷ ds)) h =
      one_line (way g) a (feed_reads g.facing g.f g.g95 (deep_at g (t + d)) w) (out_to g w (deep_at g ((t + d) - g.back)) ∷ cutting g w (t + d) (d' ∷ ds)) refl e (on_way (way g) s (t + d) (omega (arith, h.0)))
      ∙ ap (λ (l : List ℤ). deep_at g (t + d) ∷ l) (out_none w (deep_at g ((t + d) - g.back)) (cutting g w (t + d) (d' ∷ ds)) ∙ cutting_lines s w e (t + d) (d' ∷ ds) h.1)

  cutting_none : (w : ℤ) → eqb (nat_abs (w -ℤ a)) 0 ≡ false → (t : ℕ) (ds : List ℕ) → lines_at (way g) a (cutting g w t ds) ≡ []
  unfolding cutting
  cutting_none w e t [] = no_lines
  cutting_none w e t (d ∷ []) = elsewhere (way g) a (feed_reads g.facing g.f g.g95 (deep_at g (t + d)) w) [] e ∙ no_lines
  cutting_none w e t (d ∷ (d' ∷ ds)) =
      elsewhere (way g) a (feed_reads g.facing g.f g.g95 (deep_at g (t + d)) w) (out_to g w (deep_at g ((t + d) - g.back)) ∷ cutting g w (t + d) (d' ∷ ds)) e
      ∙ out_none w (deep_at g ((t + d) - g.back)) (cutting g w (t + d) (d' ∷ ds)) ∙ cutting_none w e (t + d) (d' ∷ ds)

  -- a plunge at w, in front of other records
  plunge_lines : (w : ℤ) (l : List ℤ) (rs : List Record) → lines_at (way g) a (cutting g w 0 (cuts g)) ≡ l → lines_at (way g) a (plunge g w ++ rs) ≡ l ++ lines_at (way g) a rs
  unfolding plunge
  plunge_lines w l rs e =
      lines_append (way g) a (cutting g w 0 (cuts g) ++ (dwelling g w ++ (out_to g w g.depth.start ∷ []))) rs
      ∙ ap (λ (k : List ℤ). k ++ lines_at (way g) a rs)
      (lines_append (way g) a (cutting g w 0 (cuts g)) (dwelling g w ++ (out_to g w g.depth.start ∷ []))
      ∙ (λ i. e i ++ (dwelling_none w (out_to g w g.depth.start ∷ []) ∙ out_none w g.depth.start [] ∙ no_lines) i) ∙ append-nil l)

  -- behind a place that is not above a, nothing is cut at a: the plunges go on downward
  lower : (w : ℤ) (s : ℕ) → 0 < s → w ≤ℤ a → 0 < nat_abs ((w +ℤ along Minus s) -ℤ a)
  lower w s h k = omega (whole, abs ((w +ℤ neg_ℤ (pos s)) -ℤ a), sub_in (w +ℤ neg_ℤ (pos s)) a, add_in w (neg_ℤ (pos s)), up_neg (pos s), down_neg (pos s))

  below : (w : ℤ) (s : ℕ) → w ≤ℤ a → (w +ℤ along Minus s) ≤ℤ a
  below w s k = omega (whole, add_in w (neg_ℤ (pos s)), up_neg (pos s), down_neg (pos s))

  plunges_none : (w : ℤ) → w ≤ℤ a → (ss : List ℕ) → Above ss → lines_at (way g) a (plunges g w ss) ≡ []
  unfolding plunges
  plunges_none w k [] h = out_none g.width.start g.depth.start [] ∙ no_lines
  plunges_none w k (s ∷ ss) h =
      let v : ℤ = w +ℤ along Minus s in
      let e : eqb (nat_abs (v -ℤ a)) 0 ≡ false = ne_eqb (nat_abs (v -ℤ a)) 0 (λ z. omega (arith, lower w s h.0 k)) in
      out_none v g.depth.start (plunge g v ++ plunges g v ss) ∙ plunge_lines v [] (plunges g v ss) (cutting_none v e 0 (cuts g))
      ∙ plunges_none v (below w s k) ss h.1

  after_none : g.width.start ≡ a → (ss : List ℕ) → Above ss → lines_at (way g) a (after_first g ss) ≡ []
  after_none e [] h = no_lines
  after_none e (s ∷ ss) h = plunges_none g.width.start (omega whole) (s ∷ ss) h

  -- at any place there is no line, or those of one plunge
  data Lines (zs : List ℤ) : Type 0 where
    none : zs ≡ [] → Lines zs
    one : zs ≡ lines_of (way g) 0 (cuts g) → Lines zs

  -- a plunge in front of records that have no line where it stands, and else such lines
  first_or : Sided (way_of g.depth) → Above (cuts g) → (w : ℤ) (rs : List Record) → (w ≡ a → lines_at (way g) a rs ≡ []) → Lines (lines_at (way g) a rs) → Lines (lines_at (way g) a (plunge g w ++ rs))
  first_or s u w rs f others = go (eqb (nat_abs (w -ℤ a)) 0) refl
    where
      ls : List ℤ
      ls = lines_of (way g) 0 (cuts g)

      later : eqb (nat_abs (w -ℤ a)) 0 ≡ false → Lines (lines_at (way g) a rs) → Lines (lines_at (way g) a (plunge g w ++ rs))
      later e (none z) = none (plunge_lines w [] rs (cutting_none w e 0 (cuts g)) ∙ z)
      later e (one z) = one (plunge_lines w [] rs (cutting_none w e 0 (cuts g)) ∙ z)

      go : (t : Bool) → eqb (nat_abs (w -ℤ a)) 0 ≡ t → Lines (lines_at (way g) a (plunge g w ++ rs))
      go true e =
          let z = eqb-true (nat_abs (w -ℤ a)) 0 e in
          one (plunge_lines w ls rs (cutting_lines s w z 0 (cuts g) u) ∙ ap (λ (l : List ℤ). ls ++ l) (f (no_distance w a z)) ∙ append-nil ls)
      go false e = later e others

  plunges_lines : Sided (way_of g.depth) → Above (cuts g) → (w : ℤ) (ss : List ℕ) → Above ss → Lines (lines_at (way g) a (plunges g w ss))
  unfolding plunges
  plunges_lines s u w [] h = none (out_none g.width.start g.depth.start [] ∙ no_lines)
  plunges_lines s u w (d ∷ ss) h =
      let v : ℤ = w +ℤ along Minus d in
      subst Lines (sym (out_none v g.depth.start (plunge g v ++ plunges g v ss)))
      (first_or s u v (plunges g v ss) (λ e. plunges_none v (at_most v e) ss h.1) (plunges_lines s u v ss h.1))
    where
      at_most : (v : ℤ) → v ≡ a → v ≤ℤ a
      at_most v e = omega whole

  after_lines : Sided (way_of g.depth) → Above (cuts g) → (ss : List ℕ) → Above ss → Lines (lines_at (way g) a (after_first g ss))
  after_lines s u [] h = none no_lines
  after_lines s u (d ∷ ss) h = plunges_lines s u g.width.start (d ∷ ss) h

  cuts_above : wrong g ≡ false → Above (cuts g)
  cuts_above q = pieces_above (length_of g.depth) (cut_count g) (some_cuts g q) (few_cuts g q)

  adding : wrong g ≡ false → lines_at (way g) a (grooving g) ≡ lines_of (way g) 0 (cuts g) → AddUp (length_of g.depth) (depths_at (way g) a (grooving g))
  adding q e = adds_up (way g) (sided (g.depth.target -ℤ g.depth.start) (asked g q).deep) a (grooving g) (cuts g) e (cuts_above q) (cuts_sum g q)

  anywhere : wrong g ≡ false → Cut (length_of g.depth) (depths_at (way g) a (grooving g))
  unfolding grooving
  anywhere q = go (first_or s (cuts_above q) g.width.start (after_first g (steps g)) (λ e. after_none e (steps g) (steps_above g q)) (after_lines s (cuts_above q) (steps g) (steps_above g q)))
    where
      s : Sided (way_of g.depth)
      s = sided (g.depth.target -ℤ g.depth.start) (asked g q).deep

      rs : List Record
      rs = plunge g g.width.start ++ after_first g (steps g)

      go : Lines (lines_at (way g) a rs) → Cut (length_of g.depth) (depths_at (way g) a rs)
      go (none e) = untouched_at (way g) a rs e
      go (one e) = cut (adding q e)

-- at the start the first plunge cuts
here : (g : Groove) → wrong g ≡ false → AddUp (length_of g.depth) (depths_at (way g) g.width.start (grooving g))
unfolding grooving
here g q =
    let w = g.width.start in
    let ls : List ℤ = lines_of (way g) 0 (cuts g) in
    adding g w q
    (plunge_lines g w w ls (after_first g (steps g)) (cutting_lines g w (sided (g.depth.target -ℤ g.depth.start) (asked g q).deep) w (same_place w) 0 (cuts g) (cuts_above g w q))
    ∙ ap (λ (l : List ℤ). ls ++ l) (after_none g w refl (steps g) (steps_above g q)) ∙ append-nil ls)

-- ---- G86
pub grooved : (g : Groove) → wrong g ≡ false → DepthsAddUp (way g) (grooving g)
grooved g q = record { place = g.width.start; there = here g q; each = λ a. anywhere g a q }
