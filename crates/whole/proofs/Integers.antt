-- Whole numbers (ℤ) read as differences of two naturals, so that `omega` can prove facts about them.
-- up z is z where z is positive, else 0; down z is -z where z is negative, else 0: z = up z - down z.
-- Assumes nothing.
use mathlib.Core.Path.{◌≡◌, refl, sym, ap, ◌∙◌, subst}
use mathlib.Core.Bool.{Bool, true, false, not, cond}
use Prim.Native.Nat.{ℕ, zero, suc, ◌+◌, ◌-◌, ◌*◌, ◌≤◌, ◌<◌, ◌^◌, min, max}
use native.Mathlib.Omega.{arith}
use native.Mathlib.Nat.{mul-zero, mul-le-mul}
use lib.Dec.{T, ltb, ltb→lt, nltb→le}
use lib.IntN.{ℤ, pos, negsuc, neg_ℤ, nat_abs, sub_ℕ, ◌+ℤ◌, ◌-ℤ◌, ◌*ℤ◌}
use lib.Signed.{lt_z, le_z, non_neg, ◌≤ℤ◌, ◌<ℤ◌}
use mir.Syntax.{Width, w32, w64}
use mir.Val.{SFits, hbits}
use borrow.Author.Rules.{rules}
use borrow.Author.Tests.{ltb-true, ltb-false, leb-true, leb-false, lt-ltb, le-ltb, le-leb}

abbrev pub up : ℤ → ℕ
up (pos n) = n
up (negsuc n) = 0

abbrev pub down : ℤ → ℕ
down (pos n) = 0
down (negsuc n) = suc n

-- ---- equations
pub eq_in : (a b : ℤ) → a ≡ b → up a + down b ≡ up b + down a
eq_in a b e = subst (λ (z : ℤ). up a + down z ≡ up z + down a) e refl

pub eq_out : (a b : ℤ) → up a + down b ≡ up b + down a → a ≡ b
eq_out (pos a) (pos b) h = ap pos (omega arith)
eq_out (pos a) (negsuc b) h = absurd (omega arith)
eq_out (negsuc a) (pos b) h = absurd (omega arith)
eq_out (negsuc a) (negsuc b) h = ap negsuc (omega arith)

-- ---- sums and differences
cond_ind : (c : Bool) (x y : ℤ) (P : ℤ → Type 0) → (T c → P x) → (T (not c) → P y) → P (cond c x y)
cond_ind true x y P f g = f tt
cond_ind false x y P f g = g tt

pub take_in : (a b : ℕ) → up (sub_ℕ a b) + b ≡ down (sub_ℕ a b) + a
take_in a b = cond_ind (ltb a b) (negsuc (b - suc a)) (pos (a - b)) (λ z. up z + b ≡ down z + a)
    (λ t. omega (arith, ltb→lt a b t)) (λ t. omega (arith, nltb→le a b t))

pub add_in : (a b : ℤ) → up (a +ℤ b) + (down a + down b) ≡ down (a +ℤ b) + (up a + up b)
add_in (pos a) (pos b) = omega arith
add_in (pos a) (negsuc b) = omega (arith, take_in a (suc b))
add_in (negsuc a) (pos b) = omega (arith, take_in b (suc a))
add_in (negsuc a) (negsuc b) = omega arith

pub up_neg : (a : ℤ) → up (neg_ℤ a) ≡ down a
up_neg (pos zero) = refl
up_neg (pos (suc n)) = refl
up_neg (negsuc n) = refl

pub down_neg : (a : ℤ) → down (neg_ℤ a) ≡ up a
down_neg (pos zero) = refl
down_neg (pos (suc n)) = refl
down_neg (negsuc n) = refl

pub sub_in : (a b : ℤ) → up (a -ℤ b) + (down a + up b) ≡ down (a -ℤ b) + (up a + down b)
sub_in a b = omega (arith, add_in a (neg_ℤ b), up_neg b, down_neg b)

-- ---- magnitudes: one of the two is 0
pub one_side : (a : ℤ) → min (up a) (down a) ≡ 0
one_side (pos n) = omega arith
one_side (negsuc n) = omega arith

pub abs_in : (a : ℤ) → nat_abs a ≡ up a + down a
abs_in (pos n) = omega arith
abs_in (negsuc n) = omega arith

-- ---- ranges
pub fits_up : (w : Width) (z : ℤ) → SFits w z → up z < 2 ^ hbits w
fits_up w (pos n) f = f.sfits
fits_up w (negsuc n) f = omega (arith, f.sfits)

pub fits_down : (w : Width) (z : ℤ) → SFits w z → down z ≤ 2 ^ hbits w
fits_down w (pos n) f = omega arith
fits_down w (negsuc n) f = f.sfits

pub fits_out : (w : Width) (z : ℤ) → up z < down z + 2 ^ hbits w → down z ≤ up z + 2 ^ hbits w → SFits w z
fits_out w (pos n) h k = record { sfits = omega arith }
fits_out w (negsuc n) h k = record { sfits = omega arith }

-- ---- orders
pub lt_true : (a b : ℤ) → lt_z a b ≡ true → up a + down b < up b + down a
lt_true (pos a) (pos b) e = omega (arith, ltb-true a b e)
lt_true (pos a) (negsuc b) e = absurd (subst T (sym e) tt)
lt_true (negsuc a) (pos b) e = omega arith
lt_true (negsuc a) (negsuc b) e = omega (arith, ltb-true b a e)

pub lt_false : (a b : ℤ) → lt_z a b ≡ false → up b + down a ≤ up a + down b
lt_false (pos a) (pos b) e = omega (arith, ltb-false a b e)
lt_false (pos a) (negsuc b) e = omega arith
lt_false (negsuc a) (pos b) e = absurd (subst T e tt)
lt_false (negsuc a) (negsuc b) e = omega (arith, ltb-false b a e)

-- ---- a range, an absolute value: all that is known of z in one record, which `omega` reads by its fields
pub record Range (w : Width) (z : ℤ) : Type 0 where
  pub high : up z < 2 ^ hbits w
  pub low : down z ≤ 2 ^ hbits w

pub range : {w : Width} {z : ℤ} → SFits w z → Range w z
range {w} {z} f = record { high = fits_up w z f; low = fits_down w z f }

pub record Abs (z : ℤ) : Type 0 where
  pub abs : nat_abs z ≡ up z + down z
  pub one : min (up z) (down z) ≡ 0

pub abs : (z : ℤ) → Abs z
abs z = record { abs = abs_in z; one = one_side z }

pub non_neg_lem : (z : ℤ) → down z ≤ up z → T (non_neg z)
non_neg_lem (pos n) h = tt
non_neg_lem (negsuc n) h = absurd (omega arith)

-- ---- products by a number that is not negative
pub up_mul : (k : ℕ) (a : ℤ) → up (pos k *ℤ a) ≡ k * up a
up_mul k (pos n) = refl
up_mul k (negsuc n) = up_neg (pos (k * suc n)) ∙ sym (mul-zero k)

pub down_mul : (k : ℕ) (a : ℤ) → down (pos k *ℤ a) ≡ k * down a
down_mul k (pos n) = sym (mul-zero k)
down_mul k (negsuc n) = down_neg (pos (k * suc n))

-- ---- orders, both ways
pub le_true : (a b : ℤ) → le_z a b ≡ true → up a + down b ≤ up b + down a
le_true (pos a) (pos b) e = omega (arith, leb-true a b e)
le_true (pos a) (negsuc b) e = absurd (subst T (sym e) tt)
le_true (negsuc a) (pos b) e = omega arith
le_true (negsuc a) (negsuc b) e = omega (arith, leb-true b a e)

pub le_false : (a b : ℤ) → le_z a b ≡ false → up b + down a < up a + down b
le_false (pos a) (pos b) e = omega (arith, leb-false a b e)
le_false (pos a) (negsuc b) e = omega arith
le_false (negsuc a) (pos b) e = absurd (subst T e tt)
le_false (negsuc a) (negsuc b) e = omega (arith, leb-false b a e)

is_true : {t : Bool} → T t → t ≡ true
is_true {t = true} h = refl
is_true {t = false} h = absurd h

pub le_in : (a b : ℤ) → a ≤ℤ b → up a + down b ≤ up b + down a
le_in a b h = le_true a b (is_true h.le)

pub lt_in : (a b : ℤ) → a <ℤ b → up a + down b < up b + down a
lt_in a b h = lt_true a b (is_true h.lt)

pub lt_test : (a b : ℤ) → up a + down b < up b + down a → lt_z a b ≡ true
lt_test (pos a) (pos b) h = lt-ltb a b (omega arith)
lt_test (pos a) (negsuc b) h = absurd (omega arith)
lt_test (negsuc a) (pos b) h = refl
lt_test (negsuc a) (negsuc b) h = lt-ltb b a (omega arith)

pub nlt_test : (a b : ℤ) → up b + down a ≤ up a + down b → lt_z a b ≡ false
nlt_test (pos a) (pos b) h = le-ltb a b (omega arith)
nlt_test (pos a) (negsuc b) h = refl
nlt_test (negsuc a) (pos b) h = absurd (omega arith)
nlt_test (negsuc a) (negsuc b) h = le-ltb b a (omega arith)

le_test : (a b : ℤ) → up a + down b ≤ up b + down a → le_z a b ≡ true
le_test (pos a) (pos b) h = le-leb a b (omega arith)
le_test (pos a) (negsuc b) h = absurd (omega arith)
le_test (negsuc a) (pos b) h = refl
le_test (negsuc a) (negsuc b) h = le-leb b a (omega arith)

pub lt_out : (a b : ℤ) → up a + down b < up b + down a → a <ℤ b
lt_out a b h = record { lt = subst T (sym (lt_test a b h)) tt }

pub le_out : (a b : ℤ) → up a + down b ≤ up b + down a → a ≤ℤ b
le_out a b h = record { le = subst T (sym (le_test a b h)) tt }

-- ---- the rules for `omega`: `omega (whole, sub_in a b)`
-- `omega` applies ONE rule to a hypothesis, and a rule gives one statement: of a range this one, which lets up z be 2 ^ 31 too. Where that matters, hand over both bounds, `range f`.
pub fits_in : (w : Width) (z : ℤ) → SFits w z → up z + down z ≤ 2 ^ hbits w
fits_in w (pos n) f = omega (arith, f.sfits)
fits_in w (negsuc n) f = omega (arith, f.sfits)

-- a goal's two bounds are one statement too, with one case split (`max`)
pub fits_goal : (w : Width) (z : ℤ) → max (suc (up z) + (up z + 2 ^ hbits w)) (down z + (down z + 2 ^ hbits w)) ≤ (down z + 2 ^ hbits w) + (up z + 2 ^ hbits w) → SFits w z
fits_goal w z h = fits_out w z (omega arith) (omega arith)

-- with no split: `fits (omega (whole, ..))`
pub record Within (w : Width) (z : ℤ) : Type 0 where
  pub high : up z < down z + 2 ^ hbits w
  pub low : down z ≤ up z + 2 ^ hbits w

pub fits : {w : Width} {z : ℤ} → Within w z → SFits w z
fits {w} {z} h = fits_out w z h.high h.low

pub ruleset whole = (arith, eq_in, le_in, lt_in, le_true, le_false, lt_true, lt_false, fits_in, eq_out, le_out, lt_out, fits_goal, non_neg_lem)

-- ---- a product of any two numbers, by its size
pub abs_neg : (z : ℤ) → nat_abs (neg_ℤ z) ≡ nat_abs z
abs_neg (pos zero) = refl
abs_neg (pos (suc n)) = refl
abs_neg (negsuc n) = refl

pub abs_mul : (a b : ℤ) → nat_abs (a *ℤ b) ≡ nat_abs a * nat_abs b
abs_mul (pos a) (pos b) = refl
abs_mul (pos a) (negsuc b) = abs_neg (pos (a * suc b))
abs_mul (negsuc a) (pos b) = abs_neg (pos (suc a * b))
abs_mul (negsuc a) (negsuc b) = refl

pub fits_abs : {w : Width} (z : ℤ) → nat_abs z < 2 ^ hbits w → SFits w z
fits_abs (pos n) h = record { sfits = h }
fits_abs (negsuc n) h = record { sfits = omega arith }

-- the product of two `i32` fits an `i64`
pub product_fits : {a b : ℤ} → SFits w32 a → SFits w32 b → SFits w64 (a *ℤ b)
product_fits {a} {b} f g =
    let h : nat_abs a ≤ 2147483648 = omega (whole, abs_in a) in
    let k : nat_abs b ≤ 2147483648 = omega (whole, abs_in b) in
    fits_abs (a *ℤ b) (omega (arith, abs_mul a b, mul-le-mul h k))

-- ---- an `i64` holds what one operation makes of two `i32`: `search wide`
pub widen : {a : ℤ} → SFits w32 a → SFits w64 a
widen f = omega whole

pub sum_fits : {a b : ℤ} → SFits w32 a → SFits w32 b → SFits w64 (a +ℤ b)
sum_fits {a} {b} f g = omega (whole, add_in a b)

pub dif_fits : {a b : ℤ} → SFits w32 a → SFits w32 b → SFits w64 (a -ℤ b)
dif_fits {a} {b} f g = omega (whole, sub_in a b)

pub ruleset wide = (rules, widen, sum_fits, dif_fits, product_fits)
