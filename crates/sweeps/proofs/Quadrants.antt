-- A plane turned so that a quadrant point lies along the axis: what the products of two arrows and their lengths are then, which is what they were.
-- Assumes nothing.
use mathlib.Core.Path.{◌≡◌, refl, sym, ap, ◌∙◌}
use Prim.Native.Nat.{ℕ, zero, suc, ◌+◌, ◌*◌}
use native.Mathlib.Omega.{arith}
use lib.IntN.{ℤ, pos, negsuc, neg_ℤ, neg_ℤ-neg_ℤ, nat_abs, ◌+ℤ◌, ◌-ℤ◌, ◌*ℤ◌}
use mathlib.Core.Bool.{Bool}
use lib.Signed.{lt_z}
use Rattle.whole.specs.Signed.{minus}
use Rattle.whole.proofs.Integers.{abs_neg, lt_test, nlt_test}
use Rattle.arrows.specs.declared.Arrow.{Arrow}
use Rattle.arrows.specs.Arrows.{square, cross, dot}
use Rattle.sweeps.specs.declared.Quadrant.{Quadrant}
use Rattle.sweeps.specs.declared.Quadrant.TheVariants.{East, North, West, South}
use Rattle.sweeps.specs.Sweeps.{unit}
use Rattle.arrows.specs.Known.{both}
use Rattle.arrows.proofs.Differences.{self, num, sum, dif, prod, neg, same}
use Rattle.arrows.proofs.Plane.{Lie}

-- an arrow's part along the way to a quadrant point, and its part across, counterclockwise
abbrev pub along : Quadrant → Arrow → ℤ
along East a = a.right
along North a = a.up
along West a = neg_ℤ a.right
along South a = neg_ℤ a.up

abbrev pub across : Quadrant → Arrow → ℤ
across East a = a.up
across North a = neg_ℤ a.right
across West a = neg_ℤ a.up
across South a = a.right

module _ (r u s v : ℤ) where
  cross_turned : (k : Quadrant) → r *ℤ v -ℤ u *ℤ s ≡ along k (record { right = r; up = u }) *ℤ across k (record { right = s; up = v }) -ℤ across k (record { right = r; up = u }) *ℤ along k (record { right = s; up = v })
  cross_turned East = refl
  cross_turned North = let r = self r in let u = self u in let s = self s in let v = self v in same (dif (prod r v) (prod u s)) (dif (prod u (neg s)) (prod (neg r) v)) (omega arith)
  cross_turned West = let r = self r in let u = self u in let s = self s in let v = self v in same (dif (prod r v) (prod u s)) (dif (prod (neg r) (neg v)) (prod (neg u) (neg s))) (omega arith)
  cross_turned South = let r = self r in let u = self u in let s = self s in let v = self v in same (dif (prod r v) (prod u s)) (dif (prod (neg u) s) (prod r (neg v))) (omega arith)

  dot_turned : (k : Quadrant) → r *ℤ s +ℤ u *ℤ v ≡ along k (record { right = r; up = u }) *ℤ along k (record { right = s; up = v }) +ℤ across k (record { right = r; up = u }) *ℤ across k (record { right = s; up = v })
  dot_turned East = refl
  dot_turned North = let r = self r in let u = self u in let s = self s in let v = self v in same (sum (prod r s) (prod u v)) (sum (prod u v) (prod (neg r) (neg s))) (omega arith)
  dot_turned West = let r = self r in let u = self u in let s = self s in let v = self v in same (sum (prod r s) (prod u v)) (sum (prod (neg r) (neg s)) (prod (neg u) (neg v))) (omega arith)
  dot_turned South = let r = self r in let u = self u in let s = self s in let v = self v in same (sum (prod r s) (prod u v)) (sum (prod (neg u) (neg v)) (prod r s)) (omega arith)

pub lie : (k : Quadrant) (f l p : Arrow) → Lie (along k f) (across k f) (along k l) (across k l) (along k p) (across k p) (cross f p) (cross p l) (cross f l) (dot f l)
unfolding cross dot
lie k f l p = record {
  x_is = cross_turned f.right f.up p.right p.up k;
  y_is = cross_turned p.right p.up l.right l.up k;
  w_is = cross_turned f.right f.up l.right l.up k;
  d_is = dot_turned f.right f.up l.right l.up k;
}

pub square_turned : (k : Quadrant) (a : Arrow) → nat_abs (along k a) * nat_abs (along k a) + nat_abs (across k a) * nat_abs (across k a) ≡ square a
unfolding square
square_turned East a = refl
square_turned North a = omega (arith, ap (λ (n : ℕ). n * n) (abs_neg a.right))
square_turned West a = omega (arith, ap (λ (n : ℕ). n * n) (abs_neg a.right), ap (λ (n : ℕ). n * n) (abs_neg a.up))
square_turned South a = omega (arith, ap (λ (n : ℕ). n * n) (abs_neg a.up))

-- a quadrant point lies counterclockwise of an arrow by what the arrow has across it
pub unit_after : (k : Quadrant) (a : Arrow) → cross a (unit k) ≡ neg_ℤ (across k a)
unfolding cross
unit_after East a = same (dif (prod (self a.right) (num 0)) (prod (self a.up) (num 1))) (neg (self a.up)) (omega arith)
unit_after North a = same (dif (prod (self a.right) (num 1)) (prod (self a.up) (num 0))) (neg (neg (self a.right))) (omega arith)
unit_after West a = same (dif (prod (self a.right) (num 0)) (prod (self a.up) (self (minus 1)))) (neg (neg (self a.up))) (omega arith)
unit_after South a = same (dif (prod (self a.right) (self (minus 1))) (prod (self a.up) (num 0))) (neg (self a.right)) (omega arith)

pub unit_before : (k : Quadrant) (a : Arrow) → cross (unit k) a ≡ across k a
unfolding cross
unit_before East a = same (dif (prod (num 1) (self a.up)) (prod (num 0) (self a.right))) (self a.up) (omega arith)
unit_before North a = same (dif (prod (num 0) (self a.up)) (prod (num 1) (self a.right))) (neg (self a.right)) (omega arith)
unit_before West a = same (dif (prod (self (minus 1)) (self a.up)) (prod (num 0) (self a.right))) (neg (self a.up)) (omega arith)
unit_before South a = same (dif (prod (num 0) (self a.up)) (prod (self (minus 1)) (self a.right))) (self a.right) (omega arith)

-- ---- the tests of the code
opposite_test : (z : ℤ) → lt_z z (pos 0) ≡ lt_z (pos 0) (neg_ℤ z)
opposite_test (pos zero) = refl
opposite_test (pos (suc n)) = nlt_test (pos (suc n)) (pos 0) (omega arith)
opposite_test (negsuc n) = sym (lt_test (pos 0) (pos (suc n)) (omega arith))

abbrev pub left_test : Quadrant → ℤ → ℤ → Bool
left_test East r u = lt_z u (pos 0)
left_test North r u = lt_z (pos 0) r
left_test West r u = lt_z (pos 0) u
left_test South r u = lt_z r (pos 0)

abbrev pub right_test : Quadrant → ℤ → ℤ → Bool
right_test East r u = lt_z (pos 0) u
right_test North r u = lt_z r (pos 0)
right_test West r u = lt_z u (pos 0)
right_test South r u = lt_z (pos 0) r

module _ (r u : ℤ) where
  across_test : (k : Quadrant) → left_test k r u ≡ lt_z (across k (both r u)) (pos 0)
  across_test East = refl
  across_test North = ap (lt_z (pos 0)) (sym (neg_ℤ-neg_ℤ r)) ∙ sym (opposite_test (neg_ℤ r))
  across_test West = ap (lt_z (pos 0)) (sym (neg_ℤ-neg_ℤ u)) ∙ sym (opposite_test (neg_ℤ u))
  across_test South = refl

  pub left_is : (k : Quadrant) → left_test k r u ≡ lt_z (pos 0) (cross (both r u) (unit k))
  left_is k = across_test k ∙ (opposite_test (across k (both r u)) ∙ ap (lt_z (pos 0)) (sym (unit_after k (both r u))))

  pub right_is : (k : Quadrant) → right_test k r u ≡ lt_z (pos 0) (cross (unit k) (both r u))
  right_is k = go k ∙ ap (lt_z (pos 0)) (sym (unit_before k (both r u)))
    where
      go : (k : Quadrant) → right_test k r u ≡ lt_z (pos 0) (across k (both r u))
      go East = refl
      go North = opposite_test r
      go West = opposite_test u
      go South = refl
