-- What the pieces of a row add up to, without going along it; and a row is known by its length and what it adds up to.
-- Assumes nothing.
use mathlib.Core.Path.{◌≡◌, refl, sym, ap, ◌∙◌}
use mathlib.Core.List.{◌∷◌}
use Prim.Native.Nat.{ℕ, zero, suc, ◌+◌, ◌-◌, ◌*◌, ◌≤◌, min}
use native.Mathlib.Nat.{mul-le-mul_left}
use native.Mathlib.Decide.{dec_le}
use native.Mathlib.Omega.{arith}
use Rattle.division.specs.declared.Pieces.{Pieces}
use Rattle.division.specs.Division.{sum}
use Rattle.division.specs.Carried.{next_piece, carried, row_of}

-- ---- the sum
next_is : (q r : ℕ) → next_piece q r ≡ q + min r 1
unfolding next_piece
next_is q zero = omega arith
next_is q (suc r) = omega arith

-- each piece is q long, and one for each of the remainder one longer
pub carried_sum : (q r n : ℕ) → sum (carried q r n) ≡ q * n + min r n
unfolding carried
carried_sum q r zero = omega arith
carried_sum q r (suc n) = omega (arith, next_is q r, carried_sum q (r - 1) n)

pub row_sum : (p : Pieces) → sum (row_of p) ≡ p.piece * p.left + min p.remainder p.left
unfolding row_of
row_sum p = carried_sum p.piece p.remainder p.left

-- ---- a row is known by its sum
-- the first pieces of two rows of one length, the first row's piece no longer than the second's
first_alike : (q r p s n : ℕ) → q * suc n + min r (suc n) ≡ p * suc n + min s (suc n) → q ≤ p → q + min r 1 ≡ p + min s 1
first_alike q r p s n e h = same (dec_le p q) (dec_le p (q + 1))
  where
    same : Dec (p ≤ q) → Dec (p ≤ q + 1) → q + min r 1 ≡ p + min s 1
    same (yes k) d = let z : q ≡ p = omega arith in omega (arith, ap (λ (m : ℕ). m * n) z)
    same (no k) (yes l) = let z : p ≡ q + 1 = omega arith in omega (arith, ap (λ (m : ℕ). m * n) z)
    same (no k) (no l) = absurd (omega (arith, mul-le-mul_left {m = q + 2} {n = p} n (omega arith)))

firsts : (q r p s n : ℕ) → q * suc n + min r (suc n) ≡ p * suc n + min s (suc n) → next_piece q r ≡ next_piece p s
firsts q r p s n e = same (dec_le q p)
  where
    same : Dec (q ≤ p) → next_piece q r ≡ next_piece p s
    same (yes k) = omega (arith, next_is q r, next_is p s, first_alike q r p s n e k)
    same (no k) = omega (arith, next_is q r, next_is p s, first_alike p s q r n (sym e) (omega arith))

-- TWO ROWS OF ONE LENGTH AND ONE SUM ARE ONE ROW, however the quotient and the remainder of it are written
pub known_by_sum : (q r p s n : ℕ) → sum (carried q r n) ≡ sum (carried p s n) → carried q r n ≡ carried p s n
unfolding carried
known_by_sum q r p s zero e = refl
known_by_sum q r p s (suc n) e =
    let first = firsts q r p s n (sym (carried_sum q r (suc n)) ∙ e ∙ carried_sum p s (suc n)) in
    λ i. first i ∷ known_by_sum q (r - 1) p (s - 1) n (omega (arith, e, first)) i
