-- Every arc that alarm 19 does not refuse has a point: its start.
-- Assumes nothing.
use mathlib.Core.Path.{◌≡◌, refl, ap, ◌∙◌}
use mathlib.Core.Bool.{Bool, true, false, ◌&&◌, ◌||◌}
use Prim.Native.Nat.{ℕ, ◌<◌}
use native.Mathlib.Omega.{arith}
use lib.Dec.{ltb, eqb}
use lib.IntN.{ℤ, pos, ◌*ℤ◌}
use lib.Signed.{le_z}
use Rattle.whole.proofs.Integers.{whole, eq_out, up_mul, down_mul, up_neg, down_neg}
use Rattle.axes.proofs.Places.{neither}
use Rattle.arrows.specs.declared.Arrow.{Arrow}
use Rattle.arrows.specs.Arrows.{arrow, square, cross, dot, ahead, exceeds}
use Rattle.arcs.specs.declared.Arc.{Arc}
use Rattle.arcs.specs.Arcs.{start_of, end_of, radius2, uneven}
use Rattle.sweeps.specs.Sweeps.{is_full}
use Rattle.straying.specs.Points.{towards, stage, no_later, OnArc}
use Rattle.sweeps.proofs.Sweeps.{cross_back}
use Rattle.straying.proofs.Ways.{long, Stage, on_ray, within, opposite, behind, stage_is}
use Rattle.straying.proofs.Stays.{not_zero}

one : (z : ℤ) → pos 1 *ℤ z ≡ z
one z = eq_out (pos 1 *ℤ z) z (omega (arith, up_mul 1 z, down_mul 1 z))

-- the way to the start is the start's arrow
to_start : (a : Arc) → towards a 1 a.start.x a.start.z ≡ start_of a
unfolding start_of
to_start a = λ i. arrow (one a.centre.x i) (one a.centre.z i) a.start.x a.start.z

on_itself : (c : Bool) (s : Arrow) → ahead c s s ≡ pos 0
unfolding ahead
on_itself true s = omega (whole, cross_back s s, up_neg (cross s s), down_neg (cross s s))
on_itself false s = omega (whole, cross_back s s, up_neg (cross s s), down_neg (cross s s))

first_stage : (c : Bool) (s : Arrow) → 0 < square s → stage c s s ≡ 0
first_stage c s h = go (stage_is c s s)
  where
    go : {n : ℕ} → Stage (ahead c s s) (dot s s) n → n ≡ 0
    go (on_ray a d) = refl
    go (within a) = absurd (omega (whole, on_itself c s))
    go (opposite a d) = absurd (omega (whole, long s h))
    go (behind a) = absurd (omega (whole, on_itself c s))

start_first : (c : Bool) (s e : Arrow) → 0 < square s → no_later c s e s ≡ true
unfolding no_later
start_first c s e h = ap (λ (n : ℕ). ltb n (stage c s e) || (eqb n (stage c s e) && le_z (pos 0) (ahead c s e))) (first_stage c s h) ∙ go (stage_is c s e)
  where
    go : {n : ℕ} → Stage (ahead c s e) (dot s e) n → (ltb 0 n || (eqb 0 n && le_z (pos 0) (ahead c s e))) ≡ true
    go (on_ray a d) = ap (le_z (pos 0)) a
    go (within a) = refl
    go (opposite a d) = refl
    go (behind a) = refl

pub start_on : (a : Arc) → uneven a ≡ false → OnArc a 1 a.start.x a.start.z
unfolding uneven radius2
start_on a h =
    let s = start_of a in
    let t = end_of a in
    let n = neither (eqb (square s) 0 || eqb (square t) 0) (exceeds (square s) (square t) || exceeds (square t) (square s)) h in
    let some = not_zero (square s) (neither (eqb (square s) 0) (eqb (square t) 0) n.0).0 in
    record {
      some = omega arith;
      circle = ap square (to_start a) ∙ omega arith;
      way = ap (λ (p : Arrow). is_full a || no_later a.clockwise s t p) (to_start a) ∙ either (is_full a) (start_first a.clockwise s t some);
    }
  where
    either : (b : Bool) {p : Bool} → p ≡ true → (b || p) ≡ true
    either true h = refl
    either false h = h
