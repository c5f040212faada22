-- A NUMBER AS TEXT. 01 has the numbers of a listing in decimal: "kind, flags, X, Z and value for each record", as `2 1 35400 -19900 120`.
-- No zeros in front, and a minus before a number below zero.
use Rattle.std.specs.Prelude.{List, [], ◌∷◌, ◌++◌, ℕ, zero, suc, ◌+◌, ◌/◌, ◌%◌, ℤ, pos, negsuc}
use Rattle.letters.specs.Letters.{minus_sign, digit_zero}

-- the digits of a number, the highest first, where it has no more than k: those of its tens, and then the last one; 0 has none
unfoldable pub digits_up : ℕ → ℕ → List ℕ
digits_up zero n = []
digits_up (suc k) zero = []
digits_up (suc k) (suc n) = digits_up k (suc n / 10) ++ ((digit_zero + suc n % 10) ∷ [])

-- no number has more digits than ones
unfoldable pub digits : ℕ → List ℕ
digits n = digits_up n n

-- a number with no zeros in front; 0 itself is the digit 0
unfoldable pub decimal : ℕ → List ℕ
decimal zero = digit_zero ∷ []
decimal (suc n) = digits (suc n)

unfoldable pub signed : ℤ → List ℕ
signed (pos n) = decimal n
signed (negsuc n) = minus_sign ∷ decimal (suc n)
