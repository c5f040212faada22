-- Laws of sides: going the distance to the right side arrives, and what lies on the way fits.
-- Assumes nothing.
use mathlib.Core.Path.{◌≡◌, refl, sym, ap, ◌∙◌, subst}
use Prim.Native.Nat.{ℕ, zero, suc, ◌+◌, ◌<◌, ◌≤◌}
use native.Mathlib.Omega.{arith}
use lib.IntN.{ℤ, pos, negsuc, neg_ℤ, nat_abs, ◌+ℤ◌, ◌-ℤ◌, +ℤ_idr}
use mir.Syntax.{Width}
use mir.Val.{SFits}
use Rattle.whole.specs.Signed.{side_of, along}
use Rattle.whole.specs.declared.Side.{Side}
use Rattle.whole.specs.declared.Side.TheVariants.{Minus, Zero, Plus}
use Rattle.whole.proofs.Integers.{up, down, whole, add_in, sub_in, up_neg, down_neg, range, fits}

-- a number is its size to its side
pub along_side : (z : ℤ) → along (side_of z) (nat_abs z) ≡ z
along_side (pos zero) = refl
along_side (pos (suc n)) = refl
along_side (negsuc n) = refl

-- from a to b is the distance to the side on which b lies
pub arrives : (a b : ℤ) → a +ℤ along (side_of (b -ℤ a)) (nat_abs (b -ℤ a)) ≡ b
arrives a b = rw along_side (omega (whole, add_in a (b -ℤ a), sub_in b a))

record Neg (n : ℕ) : Type 0 where
  up_neg : up (neg_ℤ (pos n)) ≡ 0
  down_neg : down (neg_ℤ (pos n)) ≡ n

neg : (n : ℕ) → Neg n
neg n = record { up_neg = up_neg (pos n); down_neg = down_neg (pos n) }

pub is_minus : (z : ℤ) → up z < down z → Minus ≡ side_of z
is_minus (pos n) h = absurd (omega arith)
is_minus (negsuc n) h = refl

-- two lengths to one side, one after the other
pub along_add : (a : ℤ) (s : Side) (m n : ℕ) → (a +ℤ along s m) +ℤ along s n ≡ a +ℤ along s (m + n)
along_add a Minus m n = omega (whole, add_in (a +ℤ neg_ℤ (pos m)) (neg_ℤ (pos n)), add_in a (neg_ℤ (pos m)), add_in a (neg_ℤ (pos (m + n))), neg m, neg n, neg (m + n))
along_add a Zero m n = +ℤ_idr (a +ℤ pos 0)
along_add a Plus m n = omega (whole, add_in (a +ℤ pos m) (pos n), add_in a (pos m), add_in a (pos (m + n)))

-- what lies on the way between two numbers that fit fits
pub between : {w : Width} {a : ℤ} (s : Side) {m n : ℕ} → SFits w a → SFits w (a +ℤ along s n) → m ≤ n → SFits w (a +ℤ along s m)
between {w} {a} Minus {m} {n} f g h = fits (omega (arith, range f, range g, add_in a (neg_ℤ (pos m)), add_in a (neg_ℤ (pos n)), neg m, neg n))
between {w} {a} Zero f g h = g
between {w} {a} Plus {m} {n} f g h = fits (omega (arith, range f, range g, add_in a (pos m), add_in a (pos n)))

pub along_zero : (a : ℤ) (s : Side) → a +ℤ along s 0 ≡ a
along_zero a Minus = +ℤ_idr a
along_zero a Zero = +ℤ_idr a
along_zero a Plus = +ℤ_idr a

-- where there is no side there is no way
pub no_way : (z : ℤ) → side_of z ≡ Zero → nat_abs z ≡ 0
no_way z e = ap nat_abs (sym (along_side z) ∙ ap (λ (s : Side). along s (nat_abs z)) e)

-- and it fits where a and b do
pub toward : {w : Width} {a b : ℤ} → SFits w a → SFits w b → (m : ℕ) → m ≤ nat_abs (b -ℤ a) → SFits w (a +ℤ along (side_of (b -ℤ a)) m)
toward {w} {a} {b} f g m h = between (side_of (b -ℤ a)) f (subst (SFits w) (sym (arrives a b)) g) h
