-- 01: "X Z U W P numbers: a sign or none, then either 1 to 7 digits without a point, meaning micrometres (001), or at most 4 digits, a point and at most
-- 3 digits, with at least one digit, meaning millimetres. .. Other numbers are unsigned digits: G and M at most 2, F S T at most 4, L and D at most 5, D at
-- most 32,767." Program and block numbers: "1 to 4 digits".
use Rattle.std.specs.Prelude.{◌≡◌, Bool, true, false, cond, ◌&&◌, ◌||◌, List, [], ◌∷◌, ℕ, zero, suc, ◌+◌, ◌*◌, ◌-◌, ◌^◌, ◌≤◌, ◌<◌, leb, ltb, eqb, ℤ, pos, length, drop}
use Rattle.whole.specs.Signed.{minus}
use Rattle.letters.specs.Letters.{plus_sign, minus_sign, point, digit_zero, digit_nine}
use Rattle.numbers.specs.declared.Digits.{Digits}
use Rattle.numbers.specs.declared.NumberForm.{NumberForm}
use Rattle.numbers.specs.declared.NumberForm.TheVariants.{Path, TwoDigits, FourDigits, FiveDigits, DNumber}
use Rattle.numbers.specs.declared.Number.{Number}
use Rattle.numbers.specs.declared.Number.TheVariants.{Value, Bad}

-- "digits": 0 to 9
abbrev pub is_digit : ℕ → Bool
is_digit b = leb digit_zero b && leb b digit_nine

-- the digits that a list begins with, at most k of them, behind n digits of the value v: the value and the count of all
unfoldable pub digits_of : ℕ → List ℕ → ℕ → ℕ → Digits
digits_of zero s v n = record { value = v; count = n }
digits_of (suc k) [] v n = record { value = v; count = n }
digits_of (suc k) (b ∷ s) v n = cond (is_digit b) (digits_of k s (v * 10 + (b - digit_zero)) (n + 1)) (record { value = v; count = n })

-- the run of at most `limit` digits from a place on, with what bounds it
pub record Run (s : List ℕ) (at limit : ℕ) (r : Digits) : Type 0 where
  pub is : r ≡ digits_of limit (drop at s) 0 0
  pub few : r.count ≤ limit
  pub within : at + r.count ≤ length s
  pub small : r.value < 10 ^ r.count

-- a number with its sign
abbrev pub with_sign : Bool → ℕ → ℤ
with_sign true v = minus v
with_sign false v = pos v

-- behind the digits d and a point stand the digits f, and then nothing; d and f together have one digit at least. The value is millimetres
abbrev pub millimetres : Bool → Digits → Digits → List ℕ → Number
millimetres negative d f s =
    cond (eqb f.count (length s) && ltb 0 (d.count + f.count)) (Value (with_sign negative (d.value * 1000 + f.value * 10 ^ (3 - f.count))) true) Bad

-- behind the digits d: nothing, and the value is micrometres; or, behind at most 4 digits, a point and at most 3 more
abbrev pub behind_digits : Bool → Digits → List ℕ → Number
behind_digits negative d [] = cond (ltb 0 d.count) (Value (with_sign negative d.value) false) Bad
behind_digits negative d (b ∷ s) = cond (eqb b point && leb d.count 4) (millimetres negative d (digits_of 3 s 0 0) s) Bad

-- a path number behind its sign
unfoldable pub unsigned_path : Bool → List ℕ → Number
unsigned_path negative s = behind_digits negative (digits_of 7 s 0 0) (drop (digits_of 7 s 0 0).count s)

-- how many bytes the sign takes, by the first byte of a number
unfoldable pub sign_size : ℕ → ℕ
sign_size b = cond (eqb b minus_sign || eqb b plus_sign) 1 0

-- "a sign or none, then .."
unfoldable pub path_of : List ℕ → Number
path_of [] = Bad
path_of (b ∷ s) = cond (eqb b minus_sign) (unsigned_path true s) (cond (eqb b plus_sign) (unsigned_path false s) (unsigned_path false (b ∷ s)))

-- the digits d are all of a part of n bytes, at least one, and worth at most `most`
abbrev pub all_digits : Digits → ℕ → ℕ → Number
all_digits d most n = cond (eqb d.count n && ltb 0 n) (cond (leb d.value most) (Value (pos d.value) false) Bad) Bad

-- 1 to `limit` digits and nothing else, worth at most `most`
unfoldable pub digits_in : ℕ → ℕ → List ℕ → Number
digits_in limit most s = all_digits (digits_of limit s 0 0) most (length s)

-- a number by its form
unfoldable pub number_of : NumberForm → List ℕ → Number
number_of Path s = path_of s
number_of TwoDigits s = digits_in 2 99 s
number_of FourDigits s = digits_in 4 9_999 s
number_of FiveDigits s = digits_in 5 99_999 s
number_of DNumber s = digits_in 5 32_767 s
