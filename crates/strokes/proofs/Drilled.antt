-- The depths of G87 and G88 add up to the stroke.
-- Assumes nothing.
use mathlib.Core.Path.{◌≡◌, refl, ap, ◌∙◌}
use mathlib.Core.Bool.{Bool, true, false, cond}
use mathlib.Core.List.{List, [], ◌∷◌, ◌++◌, append-nil}
use Prim.Native.Nat.{ℕ, ◌+◌, ◌-◌}
use native.Mathlib.Omega.{arith}
use lib.Dec.{eqb}
use lib.IntN.{ℤ, ◌-ℤ◌, nat_abs}
use borrow.Author.Tests.{eqb-true}
use Rattle.moves.specs.declared.Record.{Record}
use Rattle.moves.specs.Kinds.{rapid, feed, dwell}
use Rattle.axes.proofs.Places.{neither}
use Rattle.axes.proofs.Axes.{Sided, sided}
use Rattle.turning.specs.Turned.{feed_kind}
use Rattle.turning.proofs.Turned.{Reads}
use Rattle.drilling.specs.declared.Bore.{Bore}
use Rattle.bites.specs.Bites.{has_zero}
use Rattle.drilling.specs.Drilling.{stroke_of, way_of, bites, wrong, deep_at, out_to, clearing, boring, dwelling, drilling}
use Rattle.bites.proofs.Rows.{some}
use Rattle.drilling.proofs.Asked.{asked, bites_sum}
use Rattle.strokes.specs.Strokes.{Inward, lines_at, depths_at, Above, AddUp, Cut, cut, DepthsAddUp}
use Rattle.strokes.proofs.Reading.{passed_over, elsewhere, one_line, lines_append, lines_of, adds_up, untouched_at, on_way, same_place}

abbrev pub way : Bore → Inward
way b = record { facing = true; start = b.start; side = way_of b; stroke = stroke_of b }

rapid_is : (x z : ℤ) → Reads true (rapid x z) 1 z x
rapid_is x z = record { kind = refl; inward = refl; across = refl }

feed_is : (x z : ℤ) (f : ℕ) (g95 : Bool) → Reads true (feed x z f g95) feed_kind z x
feed_is x z f g95 = record { kind = refl; inward = refl; across = refl }

dwell_is : (x z : ℤ) (t : ℕ) → Reads true (dwell x z t) 4 z x
dwell_is x z t = record { kind = refl; inward = refl; across = refl }

none_zero : (ds : List ℕ) → has_zero ds ≡ false → Above ds
unfolding has_zero
none_zero [] e = tt
none_zero (d ∷ ds) e = let n = neither (eqb d 0) (has_zero ds) e in (some d n.0, none_zero ds n.1)

module _ (b : Bore) (a : ℤ) where
  no_lines : lines_at (way b) a [] ≡ []
  unfolding lines_at
  no_lines = refl

  -- what is no feed has no line
  out_none : (z : ℤ) (rs : List Record) → lines_at (way b) a (out_to b z ∷ rs) ≡ lines_at (way b) a rs
  out_none z rs = passed_over (way b) a (rapid_is b.x z) rs refl

  clearing_none : (t : ℕ) (rs : List Record) → lines_at (way b) a (clearing b t ++ rs) ≡ lines_at (way b) a rs
  unfolding clearing
  clearing_none t rs = go b.full
    where
      z : ℤ
      z = deep_at b (t - b.back)

      go : (f : Bool) → lines_at (way b) a (cond f (out_to b b.start ∷ out_to b z ∷ []) (out_to b z ∷ []) ++ rs) ≡ lines_at (way b) a rs
      go true = out_none b.start (out_to b z ∷ rs) ∙ out_none z rs
      go false = out_none z rs

  tail_none : lines_at (way b) a (dwelling b ++ (out_to b b.start ∷ [])) ≡ []
  unfolding dwelling
  tail_none = go (eqb b.dwell 0)
    where
      home : List Record
      home = out_to b b.start ∷ []

      go : (t : Bool) → lines_at (way b) a (cond t [] (dwell b.x b.target b.dwell ∷ []) ++ home) ≡ []
      go true = out_none b.start [] ∙ no_lines
      go false = passed_over (way b) a (dwell_is b.x b.target b.dwell) home refl ∙ out_none b.start [] ∙ no_lines

  -- at the place where it stands the lines are those of the bites
  boring_lines : Sided (way_of b) → nat_abs (b.x -ℤ a) ≡ 0 → (t : ℕ) (ds : List ℕ) → Above ds → lines_at (way b) a (boring b t ds) ≡ lines_of (way b) t ds
  unfolding boring lines_of
  boring_lines s e t [] h = no_lines
  boring_lines s e t (d ∷ []) h =
      one_line (way b) a (feed_is b.x (deep_at b (t + d)) b.f b.g95) [] refl e (on_way (way b) s (t + d) (omega (arith, h.0)))
      ∙ ap (λ (l : List ℤ). deep_at b (t + d) ∷ l) no_lines
  boring_lines s e t (d ∷ (d' ∷ ds)) h =
      one_line (way b) a (feed_is b.x (deep_at b (t + d)) b.f b.g95) (clearing b (t + d) ++ boring b (t + d) (d' ∷ ds)) refl e (on_way (way b) s (t + d) (omega (arith, h.0)))
      ∙ ap (λ (l : List ℤ). deep_at b (t + d) ∷ l) (clearing_none (t + d) (boring b (t + d) (d' ∷ ds)) ∙ boring_lines s e (t + d) (d' ∷ ds) h.1)

  -- and elsewhere there are none
  boring_none : eqb (nat_abs (b.x -ℤ a)) 0 ≡ false → (t : ℕ) (ds : List ℕ) → lines_at (way b) a (boring b t ds) ≡ []
  unfolding boring
  boring_none e t [] = no_lines
  boring_none e t (d ∷ []) = elsewhere (way b) a (feed_is b.x (deep_at b (t + d)) b.f b.g95) [] e ∙ no_lines
  boring_none e t (d ∷ (d' ∷ ds)) =
      elsewhere (way b) a (feed_is b.x (deep_at b (t + d)) b.f b.g95) (clearing b (t + d) ++ boring b (t + d) (d' ∷ ds)) e
      ∙ clearing_none (t + d) (boring b (t + d) (d' ∷ ds)) ∙ boring_none e (t + d) (d' ∷ ds)

  all_lines : (l : List ℤ) → lines_at (way b) a (boring b 0 (bites b)) ≡ l → lines_at (way b) a (drilling b) ≡ l
  unfolding drilling
  all_lines l e =
      lines_append (way b) a (boring b 0 (bites b)) (dwelling b ++ (out_to b b.start ∷ []))
      ∙ (λ i. e i ++ tail_none i) ∙ append-nil l

  here : wrong b ≡ false → nat_abs (b.x -ℤ a) ≡ 0 → AddUp (stroke_of b) (depths_at (way b) a (drilling b))
  here q e =
      let s = sided (b.target -ℤ b.start) (asked b q).long in
      let h = none_zero (bites b) (asked b q).above in
      adds_up (way b) s a (drilling b) (bites b) (all_lines (lines_of (way b) 0 (bites b)) (boring_lines s e 0 (bites b) h)) h (bites_sum b q)

  anywhere : wrong b ≡ false → Cut (stroke_of b) (depths_at (way b) a (drilling b))
  anywhere q = go (eqb (nat_abs (b.x -ℤ a)) 0) refl
    where
      go : (t : Bool) → eqb (nat_abs (b.x -ℤ a)) 0 ≡ t → Cut (stroke_of b) (depths_at (way b) a (drilling b))
      go true e = cut (here q (eqb-true (nat_abs (b.x -ℤ a)) 0 e))
      go false e = untouched_at (way b) a (drilling b) (all_lines [] (boring_none e 0 (bites b)))

-- ---- G87 AND G88
pub drilled : (b : Bore) → wrong b ≡ false → DepthsAddUp (way b) (drilling b)
drilled b q = record { place = b.x; there = here b b.x q (same_place b.x); each = λ a. anywhere b a q }
