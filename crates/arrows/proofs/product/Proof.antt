-- `arrows::product` meets its contract.
use mathlib.Core.Path.{sym, subst}
use Prim.Native.Nat.{◌*◌, ◌≤◌}
use native.Mathlib.Omega.{arith}
use native.Mathlib.Nat.{mul-le-mul}
use lib.IntN.{ℤ, nat_abs, ◌*ℤ◌}
use mir.Syntax.{w64}
use mir.Val.{SFits}
use Rattle.whole.proofs.Integers.{abs_mul, fits_abs}
use Rattle.whole.proofs.Held.{held, is, prod, prod_need}
use Rattle.arrows.specs.Known.{greatest_part}
use Rattle.arrows.proofs.product.Statement.{statement}
use Rattle.arrows.proofs.product.Tie as tie

record Fit (a b : ℤ) : Type 0 where
  size : nat_abs (a *ℤ b) ≤ greatest_part * greatest_part
  whole64 : SFits w64 (a *ℤ b)

fit : (a b : ℤ) → nat_abs a ≤ greatest_part → nat_abs b ≤ greatest_part → Fit a b
fit a b h k =
    let m = abs_mul a b in
    let s = mul-le-mul h k in
    record { size = omega arith; whole64 = fits_abs (a *ℤ b) (omega arith) }

mul_result : tie.Need-overflow_mul-result
mul_result c = prod_need (held c.ranges.a) (held c.ranges.b) (fit c.args.a c.args.b c.requires.0 c.requires.1).whole64

returns : tie.Need-returns
returns c =
    let f = fit c.args.a c.args.b c.requires.0 c.requires.1 in
    let e = is (prod (held c.ranges.a) (held c.ranges.b) f.whole64) in
    (e, subst (λ (z : ℤ). nat_abs z ≤ greatest_part * greatest_part) (sym e) f.size)

pub product_spec : {M : Type 1} → statement M
product_spec = tie.close (tie.spec mul_result returns)
