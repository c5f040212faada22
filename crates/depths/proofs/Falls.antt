-- Falling cuts: their depths are the roots of 02's sentence and their count is its count, every cut before the last stays above the bottom, and no cut takes more than the
-- first.
-- Assumes nothing.
use mathlib.Core.Path.{◌≡◌, sym, ap, subst, ◌∙◌}
use mathlib.Core.List.{[], ◌∷◌}
use Prim.Native.Nat.{ℕ, zero, suc, ◌+◌, ◌-◌, ◌*◌, ◌/◌, ◌≤◌, ◌<◌}
use native.Mathlib.Nat.{mul-le-mul_left, le-div_iff_mul-le, div-lt_iff_lt-mul, lt-mul-div-succ, div-add-mod, mod-lt, mul-div_cancel, mul-pos, mul-zero, zero-div}
use native.Mathlib.Omega.{arith}
use Rattle.division.specs.Division.{count, greatest}
use Rattle.division.proofs.Divisions.{count_is, count_above}
use Rattle.roots.specs.Roots.{root}
use Rattle.roots.proofs.Rooting.{is_root, unique, root_mono, root_below, root_above, root_square, root_sum}
use Rattle.depths.specs.Depths.{by_depth, by_number, cuts}
use Rattle.depths.specs.Promised.{taken, RootByDepth, RootByNumber, Until, last, more}

positive : (n : ℕ) → 0 < n → 0 < root n
positive n h = root_above n 1 (omega arith)

-- a root is above the bottom where its square is less than the square of the depth
short_of : (n e : ℕ) → 0 < e → n < e * e → root n < e
short_of n e pe h =
    let one : e - 1 + 1 ≡ e = omega arith in
    let same : (e - 1 + 1) * (e - 1 + 1) ≡ e * e = ap (λ (m : ℕ). m * m) one in
    omega (arith, root_below n (e - 1) (omega arith))

-- ---- by depth
module _ (d e : ℕ) (pd : 0 < d) (pe : 0 < e) where
  squared : 0 < d * d
  squared = mul-pos pd pd

  counted : count (e * e) (d * d) ≡ (e * e - 1) / (d * d) + 1
  counted = count_is (e * e) (d * d) (mul-pos pe pe) squared

  pub some_depths : 0 < count (e * e) (d * d)
  some_depths = count_above (e * e) (d * d) (mul-pos pe pe) squared

  -- no cut before the last reaches the depth
  pub before_last : (k : ℕ) → k < count (e * e) (d * d) → by_depth d k < e
  before_last k h =
      let s : k * (d * d) ≤ e * e - 1 = (le-div_iff_mul-le {k = d * d} {x = k} {y = e * e - 1} squared).0 (omega (arith, counted)) in
      short_of (k * (d * d)) e pe (omega (arith, mul-pos pe pe))

  -- and the last does
  pub at_last : e ≤ by_depth d (count (e * e) (d * d))
  at_last =
      root_above (count (e * e) (d * d) * (d * d)) e
      (omega (arith, lt-mul-div-succ (e * e - 1) squared, ap (λ (n : ℕ). d * d * n) counted))

-- no depth is less than the one before it, and none is more than that and the first
pub by_depth_rises : (d k : ℕ) → by_depth d k ≤ by_depth d (suc k)
by_depth_rises d k = root_mono (k * (d * d)) (suc k * (d * d)) (omega arith)

pub by_depth_no_more : (d k : ℕ) → 0 < d → by_depth d (suc k) ≤ by_depth d k + by_depth d 1
by_depth_no_more d zero pd = omega arith
by_depth_no_more d (suc k) pd =
    let s : 0 < d * d = mul-pos pd pd in
    root_sum (suc k * (d * d)) (1 * (d * d)) (suc (suc k) * (d * d)) (positive (suc k * (d * d)) (omega arith)) (positive (1 * (d * d)) (omega arith)) (omega arith)

pub by_depth_none : (d : ℕ) → by_depth d 0 ≡ 0
by_depth_none d = omega (arith, root_below (0 * (d * d)) 0 (omega arith))

-- ---- by number
module _ (d e : ℕ) (pd : 0 < d) where
  pub by_number_rises : (k : ℕ) → by_number d e k ≤ by_number d e (suc k)
  by_number_rises k =
      root_mono (e * e * k / d) (e * e * suc k / d)
      ((le-div_iff_mul-le {k = d} {x = e * e * k / d} {y = e * e * suc k} pd).1 (omega (arith, div-add-mod (e * e * k) d)))

  pub by_number_none : by_number d e 0 ≡ 0
  by_number_none = omega (arith, root_below (e * e * 0 / d) 0 (omega (arith, ap (λ (n : ℕ). n / d) (mul-zero (e * e)) ∙ zero-div d)))

  -- the last is D6
  pub by_number_last : by_number d e d ≡ e
  by_number_last = ap root (mul-div_cancel (e * e) pd) ∙ root_square e

  -- and no cut before it
  pub by_number_before : 0 < e → (k : ℕ) → k < d → by_number d e k < e
  by_number_before pe k h =
      let s : 0 < e * e = mul-pos pe pe in
      short_of (e * e * k / d) e pe
      ((div-lt_iff_lt-mul {k = d} {x = e * e * k} {y = e * e} pd).1 (omega (arith, mul-le-mul_left {m = suc k} {n = d} (e * e) h)))

  pub by_number_no_more : d ≤ e → (k : ℕ) → by_number d e (suc k) ≤ by_number d e k + by_number d e 1
  by_number_no_more de zero = omega arith
  by_number_no_more de (suc k) =
      root_sum (e * e * suc k / d) (e * e * 1 / d) (e * e * suc (suc k) / d) (positive (e * e * suc k / d) (least (suc k) (omega arith))) (positive (e * e * 1 / d) (least 1 (omega arith))) (omega (arith, shared))
    where
      least : (j : ℕ) → 0 < j → 0 < e * e * j / d
      least j h =
          let w : 1 * d ≤ e * e * j = omega (arith, de, pd, mul-le-mul_left {m = 1} {n = j} (e * e) h, mul-le-mul_left {m = 1} {n = e} e (omega (arith, de, pd))) in
          (le-div_iff_mul-le {k = d} {x = 1} {y = e * e * j} pd).1 w

      shared : e * e * suc (suc k) / d < e * e * suc k / d + e * e * 1 / d + 2
      shared =
          (div-lt_iff_lt-mul {k = d} {x = e * e * suc (suc k)} {y = e * e * suc k / d + e * e * 1 / d + 2} pd).1
          (omega (arith, div-add-mod (e * e * suc k) d, div-add-mod (e * e * 1) d, mod-lt (e * e * suc k) pd, mod-lt (e * e * 1) pd))

-- ---- these depths are the whole parts of the roots, and there are no others
pub root_by_depth : (d k : ℕ) → RootByDepth d k (by_depth d k)
root_by_depth d k = let r = is_root (k * (d * d)) in record { below = omega (arith, r.below); above = omega (arith, r.above) }

pub only_by_depth : (d k x : ℕ) → RootByDepth d k x → x ≡ by_depth d k
only_by_depth d k x r = unique (record { below = omega (arith, r.below); above = omega (arith, r.above) })

module _ (d e k : ℕ) (pd : 0 < d) where
  pub root_by_number : RootByNumber d e k (by_number d e k)
  root_by_number =
      let x = by_number d e k in
      let r = is_root (e * e * k / d) in
      record { below = (le-div_iff_mul-le {k = d} {x = x * x} {y = e * e * k} pd).0 r.below; above = (div-lt_iff_lt-mul {k = d} {x = e * e * k} {y = (x + 1) * (x + 1)} pd).0 r.above }

  pub only_by_number : (x : ℕ) → RootByNumber d e k x → x ≡ by_number d e k
  only_by_number x r =
      unique (record { below = (le-div_iff_mul-le {k = d} {x = x * x} {y = e * e * k} pd).1 r.below; above = (div-lt_iff_lt-mul {k = d} {x = e * e * k} {y = (x + 1) * (x + 1)} pd).1 r.above })

-- ---- rows of falling cuts
-- 02's sentence: the first at or above D6 is made D6 and is the last. f k is depth k by the rule, and g is f but for what is at or above D6
pub until : (R : ℕ → ℕ → Type 0) (f g : ℕ → ℕ) (e n : ℕ) → ((k : ℕ) → R k (f k)) → ((k : ℕ) → f k < e → g k ≡ f k) → g n ≡ e → ((k : ℕ) → k < n → f k < e) → e ≤ f n → (m k : ℕ) → k + m ≡ n → Until R e k (cuts g k (suc m))
unfolding cuts
until R f g e n by same end before at zero k h =
    let here : k ≡ n = omega arith in
    subst (λ (x : ℕ). Until R e k (x ∷ [])) (sym (ap g here ∙ end)) (last (by k) (subst (λ (j : ℕ). e ≤ f j) (sym here) at))
until R f g e n by same end before at (suc m) k h =
    let l : f k < e = before k (omega arith) in
    subst (λ (x : ℕ). Until R e k (x ∷ cuts g (suc k) (suc m))) (sym (same k l)) (more (by k) l (until R f g e n by same end before at m (suc k) (omega arith)))

-- no cut takes more than c
pub taken_within : (f : ℕ → ℕ) (c : ℕ) → ((k : ℕ) → f (suc k) ≤ f k + c) → (k m : ℕ) → greatest (taken (f k) (cuts f (suc k) m)) ≤ c
unfolding cuts taken
taken_within f c h k zero = omega arith
taken_within f c h k (suc m) = omega (arith, h k, taken_within f c h (suc k) m)
