-- `arrows::squared` meets its contract.
use mathlib.Core.Path.{◌∙◌}
use Prim.Native.Nat.{◌≤◌}
use native.Mathlib.Omega.{arith}
use native.Mathlib.Nat.{mul-le-mul}
use lib.Dec.{T}
use lib.IntN.{ℤ, nat_abs, ◌*ℤ◌}
use lib.Signed.{non_neg}
use mir.Syntax.{w64}
use mir.Val.{SFits, Fits}
use Rattle.whole.proofs.Integers.{whole, abs_mul, fits_abs}
use Rattle.whole.proofs.Held.{held, prod, prod_need, size, size_need}
use Rattle.arrows.specs.Known.{greatest_part}
use Rattle.arrows.proofs.Plane.{square_pos}
use Rattle.arrows.proofs.squared.Statement.{statement}
use Rattle.arrows.proofs.squared.Tie as tie

record Fit (v : ℤ) : Type 0 where
  whole64 : SFits w64 (v *ℤ v)
  natural : T (non_neg (v *ℤ v))
  size64 : Fits w64 (nat_abs (v *ℤ v))

fit : (v : ℤ) → nat_abs v ≤ greatest_part → Fit v
fit v h =
    let m = abs_mul v v in
    let s = mul-le-mul h h in
    let p = square_pos v in
    record { whole64 = fits_abs (v *ℤ v) (omega arith); natural = omega whole; size64 = omega arith }

mul_result : tie.Need-overflow_mul-result
mul_result c = prod_need (held c.ranges.v) (held c.ranges.v) (fit c.args.v c.requires).whole64

cast_result : tie.Need-overflow_cast-result
cast_result c =
    let f = fit c.args.v c.requires in
    size_need (prod (held c.ranges.v) (held c.ranges.v) f.whole64) w64 (f.natural, f.size64)

returns : tie.Need-returns
returns c = size (prod (held c.ranges.v) (held c.ranges.v) (fit c.args.v c.requires).whole64) ∙ abs_mul c.args.v c.args.v

pub squared_spec : {M : Type 1} → statement M
squared_spec = tie.close (tie.spec mul_result cast_result returns)
