-- The digits of a number: those of its tens and the last one, and how many there are.
-- Assumes nothing.
use mathlib.Core.Path.{◌≡◌, refl, ap}
use mathlib.Core.Bool.{true, false}
use mathlib.Core.List.{List, [], ◌∷◌, ◌++◌}
use Prim.Native.Nat.{ℕ, zero, suc, ◌+◌, ◌/◌, ◌%◌, ◌^◌, ◌<◌, ◌≤◌}
use native.Mathlib.Nat.{div-lt_iff_lt-mul, le-div_iff_mul-le, pow-le-pow_right}
use native.Mathlib.Omega.{arith}
use lib.IntN.{ℤ, pos, negsuc, nat_abs}
use lib.ListN.{length, length-append}
use lib.Signed.{lt_z}
use Rattle.whole.proofs.Integers.{whole, lt_true, lt_false}
use Rattle.letters.specs.Letters.{minus_sign, digit_zero}
use Rattle.decimal.specs.Decimal.{digits_up, digits, decimal, signed}

-- ---- more than enough changes nothing
enough : (k m n : ℕ) → n ≤ k → n ≤ m → digits_up k n ≡ digits_up m n
unfolding digits_up
enough zero zero n h l = refl
enough zero (suc m) zero h l = refl
enough zero (suc m) (suc n) h l = absurd (omega arith)
enough (suc k) zero zero h l = refl
enough (suc k) zero (suc n) h l = absurd (omega arith)
enough (suc k) (suc m) zero h l = refl
enough (suc k) (suc m) (suc n) h l = ap (λ (w : List ℕ). w ++ ((digit_zero + suc n % 10) ∷ [])) (enough k m (suc n / 10) (omega arith) (omega arith))

pub digits_none : digits 0 ≡ []
unfolding digits digits_up
digits_none = refl

pub digits_more : (n : ℕ) → 0 < n → digits n ≡ digits (n / 10) ++ ((digit_zero + n % 10) ∷ [])
unfolding digits digits_up
digits_more zero h = absurd (omega arith)
digits_more (suc n) h = ap (λ (w : List ℕ). w ++ ((digit_zero + suc n % 10) ∷ [])) (enough n (suc n / 10) (suc n / 10) (omega arith) (omega arith))

pub decimal_zero : (n : ℕ) → n ≡ 0 → decimal n ≡ digit_zero ∷ []
unfolding decimal
decimal_zero n e = ap decimal e

pub decimal_more : (n : ℕ) → 0 < n → decimal n ≡ digits n
unfolding decimal
decimal_more zero h = absurd (omega arith)
decimal_more (suc n) h = refl

-- ---- the sign
pub signed_minus : (z : ℤ) → lt_z z (pos 0) ≡ true → signed z ≡ minus_sign ∷ decimal (nat_abs z)
unfolding signed
signed_minus (pos n) e = absurd (omega (whole, lt_true (pos n) (pos 0) e))
signed_minus (negsuc n) e = refl

pub signed_plus : (z : ℤ) → lt_z z (pos 0) ≡ false → signed z ≡ decimal (nat_abs z)
unfolding signed
signed_plus (pos n) e = refl
signed_plus (negsuc n) e = absurd (omega (whole, lt_false (negsuc n) (pos 0) e))

-- ---- how many there are
pub few_digits : (k n : ℕ) → n < 10 ^ k → length (digits n) ≤ k
few_digits zero zero h = omega (arith, ap length digits_none)
few_digits zero (suc n) h = absurd (omega arith)
few_digits (suc k) zero h = omega (arith, ap length digits_none)
few_digits (suc k) (suc n) h =
    let l : suc n / 10 < 10 ^ k = (div-lt_iff_lt-mul {k = 10} {x = suc n} {y = 10 ^ k} (omega arith)).1 (omega arith) in
    omega (arith, ap length (digits_more (suc n) (omega arith)), length-append (digits (suc n / 10)) ((digit_zero + suc n % 10) ∷ []), few_digits k (suc n / 10) l)

pub many_digits : (k n : ℕ) → 10 ^ k ≤ n → k < length (digits n)
many_digits zero n h =
    omega (arith, ap length (digits_more n (omega arith)), length-append (digits (n / 10)) ((digit_zero + n % 10) ∷ []))
many_digits (suc k) n h =
    let l : 10 ^ k ≤ n / 10 = (le-div_iff_mul-le {k = 10} {x = 10 ^ k} {y = n} (omega arith)).1 (omega arith) in
    let some : 0 < n = omega (arith, h, pow-le-pow_right {n = 10} (omega arith) {i = 0} {j = suc k} (omega arith)) in
    omega (arith, ap length (digits_more n some), length-append (digits (n / 10)) ((digit_zero + n % 10) ∷ []), many_digits k (n / 10) l)

pub few_decimal : (k n : ℕ) → n < 10 ^ suc k → length (decimal n) ≤ suc k
unfolding decimal
few_decimal k zero h = omega arith
few_decimal k (suc n) h = few_digits (suc k) (suc n) h

pub few_signed : (k : ℕ) (z : ℤ) → nat_abs z < 10 ^ suc k → length (signed z) ≤ suc (suc k)
unfolding signed
few_signed k (pos n) h = omega (arith, few_decimal k n h)
few_signed k (negsuc n) h = omega (arith, few_decimal k (suc n) h)
