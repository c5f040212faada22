-- A whole number is a length to a side of zero.
use Rattle.std.specs.Prelude.{ℕ, zero, suc, ℤ, pos, negsuc, neg_ℤ}
use Rattle.whole.specs.declared.Side.{Side}
use Rattle.whole.specs.declared.Side.TheVariants.{Minus, Zero, Plus}

-- a number below zero by its size: `minus 9_999_999` is -9,999,999
abbrev pub minus : ℕ → ℤ
minus n = neg_ℤ (pos n)

-- the side of zero on which a number lies
abbrev pub side_of : ℤ → Side
side_of (pos zero) = Zero
side_of (pos (suc n)) = Plus
side_of (negsuc n) = Minus

-- the length n laid off to a side
abbrev pub along : Side → ℕ → ℤ
along Minus n = minus n
along Zero n = pos 0
along Plus n = pos n
