-- A clockwise arc covers the places of the counterclockwise one from its end to its start: what each sweep says of the two ends in that order, and that the axis of a quadrant point that
-- is not crossed does not lie strictly between them.
-- Assumes nothing.
use mathlib.Core.Path.{◌≡◌, refl}
use mathlib.Core.Bool.{Bool, true, false, cond, ◌&&◌}
use mathlib.Core.Logic.{◌⊎◌, inl, inr}
use native.Mathlib.Omega.{arith}
use lib.IntN.{ℤ, pos, neg_ℤ}
use lib.Signed.{lt_z}
use Rattle.whole.proofs.Integers.{whole, up_neg, down_neg}
use Rattle.axes.proofs.Places.{neither}
use Rattle.arcs.specs.declared.Arc.{Arc}
use Rattle.arrows.specs.declared.Arrow.{Arrow}
use Rattle.arrows.specs.Arrows.{cross, dot, ahead}
use Rattle.sweeps.specs.declared.Sweep.{Sweep}
use Rattle.sweeps.specs.declared.Sweep.TheVariants.{Full, Nothing, Short, Long}
use Rattle.sweeps.specs.declared.Quadrant.{Quadrant}
use Rattle.arcs.specs.Arcs.{start_of, end_of}
use Rattle.sweeps.specs.Sweeps.{sweep, is_full, sweep_of, between, unit}
use Rattle.arrows.proofs.Differences.{self, sum, dif, prod, neg, same}
use Rattle.arrows.proofs.Signs.{Neg, Pos, NonNeg, NonPos}
use Rattle.sweeps.proofs.Quadrants.{across, unit_after, unit_before}

-- ---- the ends, counterclockwise
abbrev pub earlier : Bool → Arrow → Arrow → Arrow
earlier clockwise s e = cond clockwise e s

abbrev pub later : Bool → Arrow → Arrow → Arrow
later clockwise s e = cond clockwise s e

abbrev pub first : Arc → Arrow
first a = earlier a.clockwise (start_of a) (end_of a)

abbrev pub last : Arc → Arrow
last a = later a.clockwise (start_of a) (end_of a)

pub dot_back : (a b : Arrow) → dot b a ≡ dot a b
unfolding dot
dot_back a b =
    let r = self a.right in let u = self a.up in let s = self b.right in let v = self b.up in
    same (sum (prod s r) (prod v u)) (sum (prod r s) (prod u v)) (omega arith)

pub cross_back : (a b : Arrow) → cross b a ≡ neg_ℤ (cross a b)
unfolding cross
cross_back a b =
    let r = self a.right in let u = self a.up in let s = self b.right in let v = self b.up in
    same (dif (prod s u) (prod v r)) (neg (dif (prod r v) (prod u s))) (omega arith)

-- ---- what is swept
pub data Swept (f l : Arrow) : Sweep → Type 0 where
  is_full_lem : Swept f l Full
  is_none : cross f l ≡ pos 0 → Pos (dot f l) → Swept f l Nothing
  is_short : NonNeg (cross f l) → Pos (cross f l) ⊎ NonPos (dot f l) → Swept f l Short
  is_long : Neg (cross f l) → Swept f l Long

-- by the product across, and any number that is the product along
swept_by : (f l : Arrow) (d : ℤ) → d ≡ dot f l → Swept f l (cond (lt_z (cross f l) (pos 0)) Long (cond (lt_z (pos 0) (cross f l)) Short (cond (lt_z (pos 0) d) Nothing Short)))
swept_by f l d same-dot = go (lt_z (cross f l) (pos 0)) refl (lt_z (pos 0) (cross f l)) refl (lt_z (pos 0) d) refl
  where
    go : (a : Bool) → lt_z (cross f l) (pos 0) ≡ a → (b : Bool) → lt_z (pos 0) (cross f l) ≡ b → (c : Bool) → lt_z (pos 0) d ≡ c → Swept f l (cond a Long (cond b Short (cond c Nothing Short)))
    go true h b e c g = is_long (omega whole)
    go false h true e c g = is_short (omega whole) (inl (omega whole))
    go false h false e true g = is_none (omega whole) (omega whole)
    go false h false e false g = is_short (omega whole) (inr (omega whole))

sweep_is : (clockwise : Bool) (s e : Arrow) → Swept (earlier clockwise s e) (later clockwise s e) (sweep clockwise s e)
unfolding sweep ahead
sweep_is true s e = swept_by e s (dot s e) (dot_back e s)
sweep_is false s e = swept_by s e (dot s e) refl

pub swept : (a : Arc) → Swept (first a) (last a) (sweep_of a)
unfolding sweep_of
swept a = go (is_full a)
  where
    go : (b : Bool) → Swept (first a) (last a) (cond b Full (sweep a.clockwise (start_of a) (end_of a)))
    go true = is_full_lem
    go false = sweep_is a.clockwise (start_of a) (end_of a)

-- ---- past the start, and before the end
-- past the start and before the end is past the first and before the last; so with one of the two
pub both_ways : (clockwise : Bool) (s e p : Arrow) → NonNeg (ahead clockwise s p) × NonNeg (ahead clockwise p e)
    → NonNeg (cross (earlier clockwise s e) p) × NonNeg (cross p (later clockwise s e))
unfolding ahead
both_ways true s e p h = (h.1, h.0)
both_ways false s e p h = h

pub one_way : (clockwise : Bool) (s e p : Arrow) → NonNeg (ahead clockwise s p) ⊎ NonNeg (ahead clockwise p e)
    → NonNeg (cross (earlier clockwise s e) p) ⊎ NonNeg (cross p (later clockwise s e))
unfolding ahead
one_way true s e p (inl h) = inr h
one_way true s e p (inr h) = inl h
one_way false s e p h = h

-- on one line in either direction
pub on_line : (clockwise : Bool) (s p : Arrow) → ahead clockwise s p ≡ pos 0 → cross s p ≡ pos 0
unfolding ahead
on_line true s p h = omega (whole, cross_back s p, up_neg (cross s p), down_neg (cross s p))
on_line false s p h = h

-- ---- a quadrant point that is not crossed
and_false : (a b : Bool) → (a && b) ≡ false → (a ≡ false) ⊎ (b ≡ false)
and_false true b h = inr h
and_false false b h = inl refl

module _ (f l : Arrow) (k : Quadrant) where
  not_past : lt_z (pos 0) (cross f (unit k)) ≡ false → NonNeg (across k f)
  not_past h = omega (whole, unit_after k f, up_neg (across k f), down_neg (across k f))

  not_before : lt_z (pos 0) (cross (unit k) l) ≡ false → NonPos (across k l)
  not_before h = omega (whole, unit_before k l)

abbrev past : Bool → Arrow → Quadrant → Bool
past clockwise s k = lt_z (pos 0) (ahead clockwise s (unit k))

abbrev before : Bool → Arrow → Quadrant → Bool
before clockwise e k = lt_z (pos 0) (ahead clockwise (unit k) e)

pub short_not : (clockwise : Bool) (s e : Arrow) (k : Quadrant) → between Short (past clockwise s k) (before clockwise e k) ≡ false
    → NonNeg (across k (earlier clockwise s e)) ⊎ NonPos (across k (later clockwise s e))
unfolding between ahead
short_not clockwise s e k h = go clockwise (and_false (past clockwise s k) (before clockwise e k) h)
  where
    go : (c : Bool) → (past c s k ≡ false) ⊎ (before c e k ≡ false) → NonNeg (across k (earlier c s e)) ⊎ NonPos (across k (later c s e))
    go true (inl h) = inr (not_before e s k h)
    go true (inr h) = inl (not_past e s k h)
    go false (inl h) = inl (not_past s e k h)
    go false (inr h) = inr (not_before s e k h)

pub long_not : (clockwise : Bool) (s e : Arrow) (k : Quadrant) → between Long (past clockwise s k) (before clockwise e k) ≡ false
    → NonNeg (across k (earlier clockwise s e)) × NonPos (across k (later clockwise s e))
unfolding between ahead
long_not clockwise s e k h = let n = neither (past clockwise s k) (before clockwise e k) h in go clockwise n.0 n.1
  where
    go : (c : Bool) → past c s k ≡ false → before c e k ≡ false → NonNeg (across k (earlier c s e)) × NonPos (across k (later c s e))
    go true p b = (not_past e s k b, not_before e s k p)
    go false p b = (not_past s e k p, not_before s e k b)
