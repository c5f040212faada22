-- The signs of products in ℤ. `omega` takes `a *ℤ b` for a number of its own: these are the facts that it is handed.
-- Assumes nothing.
use mathlib.Core.Path.{◌≡◌, refl, ap, ◌∙◌}
use Prim.Native.Nat.{zero, suc, ◌<◌}
use native.Mathlib.Nat.{mul-pos}
use lib.IntN.{ℤ, pos, negsuc, zero-*ℤ, *ℤ-zero, ◌*ℤ◌}
use lib.Signed.{◌≤ℤ◌, ◌<ℤ◌}
use Rattle.whole.proofs.Integers.{whole}
use Rattle.arrows.proofs.Differences.{self, prod}

abbrev pub Neg : ℤ → Type 0
Neg z = z <ℤ pos 0

abbrev pub Pos : ℤ → Type 0
Pos z = pos 0 <ℤ z

abbrev pub NonNeg : ℤ → Type 0
NonNeg z = pos 0 ≤ℤ z

abbrev pub NonPos : ℤ → Type 0
NonPos z = z ≤ℤ pos 0

-- which sign a number has
pub data Sign (z : ℤ) : Type 0 where
  minus : Neg z → Sign z
  nought : z ≡ pos 0 → Sign z
  plus : Pos z → Sign z

pub sign : (z : ℤ) → Sign z
sign (pos zero) = nought refl
sign (pos (suc n)) = plus (omega whole)
sign (negsuc n) = minus (omega whole)

pub zero_l : (a b : ℤ) → a ≡ pos 0 → a *ℤ b ≡ pos 0
zero_l a b e = ap (λ (z : ℤ). z *ℤ b) e ∙ zero-*ℤ b

pub zero_r : (a b : ℤ) → b ≡ pos 0 → a *ℤ b ≡ pos 0
zero_r a b e = ap (λ (z : ℤ). a *ℤ z) e ∙ *ℤ-zero a

pub pp : (a b : ℤ) → NonNeg a → NonNeg b → NonNeg (a *ℤ b)
pp (pos a) (pos b) h k = omega whole
pp (pos a) (negsuc b) h k = absurd (omega whole)
pp (negsuc a) b h k = absurd (omega whole)

pub pn : (a b : ℤ) → NonNeg a → NonPos b → NonPos (a *ℤ b)
pn (pos a) (pos b) h k = let e : b ≡ 0 = omega whole in omega (whole, zero_r (pos a) (pos b) (ap pos e))
pn (pos a) (negsuc b) h k = omega (whole, prod (self (pos a)) (self (negsuc b)))
pn (negsuc a) b h k = absurd (omega whole)

pub np : (a b : ℤ) → NonPos a → NonNeg b → NonPos (a *ℤ b)
np (pos a) b h k = let e : a ≡ 0 = omega whole in omega (whole, zero_l (pos a) (b) (ap pos e))
np (negsuc a) (pos b) h k = omega (whole, prod (self (negsuc a)) (self (pos b)))
np (negsuc a) (negsuc b) h k = absurd (omega whole)

pub nn : (a b : ℤ) → NonPos a → NonPos b → NonNeg (a *ℤ b)
nn (pos a) b h k = let e : a ≡ 0 = omega whole in omega (whole, zero_l (pos a) (b) (ap pos e))
nn (negsuc a) (pos b) h k = let e : b ≡ 0 = omega whole in omega (whole, zero_r (negsuc a) (pos b) (ap pos e))
nn (negsuc a) (negsuc b) h k = omega whole

pub pp< : (a b : ℤ) → Pos a → Pos b → Pos (a *ℤ b)
pp< (pos a) (pos b) h k = let e : 0 < a = omega whole in let f : 0 < b = omega whole in omega (whole, mul-pos e f)
pp< (pos a) (negsuc b) h k = absurd (omega whole)
pp< (negsuc a) b h k = absurd (omega whole)

pub pn< : (a b : ℤ) → Pos a → Neg b → Neg (a *ℤ b)
pn< (pos a) (pos b) h k = absurd (omega whole)
pn< (pos a) (negsuc b) h k = omega (whole, prod (self (pos a)) (self (negsuc b)))
pn< (negsuc a) b h k = absurd (omega whole)

pub np< : (a b : ℤ) → Neg a → Pos b → Neg (a *ℤ b)
np< (pos a) b h k = absurd (omega whole)
np< (negsuc a) (pos b) h k = omega (whole, prod (self (negsuc a)) (self (pos b)))
np< (negsuc a) (negsuc b) h k = absurd (omega whole)

pub nn< : (a b : ℤ) → Neg a → Neg b → Pos (a *ℤ b)
nn< (pos a) b h k = absurd (omega whole)
nn< (negsuc a) (pos b) h k = absurd (omega whole)
nn< (negsuc a) (negsuc b) h k = omega whole
