-- `arcs::centre_x` meets its contract.
use mathlib.Core.Path.{◌≡◌}
use mathlib.Core.Bool.{true}
use lib.IntN.{ℤ, pos, ◌+ℤ◌, ◌*ℤ◌}
use mir.Syntax.{w32}
use mir.Val.{SFits}
use Rattle.whole.specs.Position.{in_table}
use Rattle.whole.proofs.Integers.{whole, add_in, up_mul, down_mul}
use Rattle.whole.proofs.Positions.{in_range}
use Rattle.whole.proofs.Held.{held, is, num, sum, sum_need, prod, prod_need}
use Rattle.arcs.proofs.centre_x.Statement.{statement}
use Rattle.arcs.proofs.centre_x.Tie as tie

record Fit (s i : ℤ) : Type 0 where
  double : SFits w32 (pos 2 *ℤ i)
  centre : SFits w32 (s +ℤ pos 2 *ℤ i)

fit : (s i : ℤ) → in_table s ≡ true → in_table i ≡ true → Fit s i
fit s i h k =
    let a = in_range s h in
    let b = in_range i k in
    record { double = omega (whole, up_mul 2 i, down_mul 2 i); centre = omega (whole, up_mul 2 i, down_mul 2 i, add_in s (pos 2 *ℤ i)) }

mul_result : tie.Need-overflow_mul-result
mul_result c = prod_need (num w32 (pos 2) tt) (held c.ranges.i) (fit c.args.start c.args.i c.requires.0 c.requires.1).double

add_result : tie.Need-overflow_add-result
add_result c =
    let f = fit c.args.start c.args.i c.requires.0 c.requires.1 in
    sum_need (held c.ranges.start) (prod (num w32 (pos 2) tt) (held c.ranges.i) f.double) f.centre

returns : tie.Need-returns
returns c =
    let f = fit c.args.start c.args.i c.requires.0 c.requires.1 in
    is (sum (held c.ranges.start) (prod (num w32 (pos 2) tt) (held c.ranges.i) f.double) f.centre)

pub centre_x_spec : {M : Type 1} → statement M
centre_x_spec = tie.close (tie.spec mul_result add_result returns)
