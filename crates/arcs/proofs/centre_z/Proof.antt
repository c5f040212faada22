-- `arcs::centre_z` meets its contract.
use mathlib.Core.Path.{◌≡◌}
use mathlib.Core.Bool.{true}
use lib.IntN.{ℤ, ◌+ℤ◌}
use mir.Syntax.{w32}
use mir.Val.{SFits}
use Rattle.whole.specs.Position.{in_table}
use Rattle.whole.proofs.Integers.{whole, add_in}
use Rattle.whole.proofs.Positions.{in_range}
use Rattle.whole.proofs.Held.{held, is, sum, sum_need}
use Rattle.arcs.proofs.centre_z.Statement.{statement}
use Rattle.arcs.proofs.centre_z.Tie as tie

fit : (s k : ℤ) → in_table s ≡ true → in_table k ≡ true → SFits w32 (s +ℤ k)
fit s k h g =
    let a = in_range s h in
    let b = in_range k g in
    omega (whole, add_in s k)

add_result : tie.Need-overflow_add-result
add_result c = sum_need (held c.ranges.start) (held c.ranges.k) (fit c.args.start c.args.k c.requires.0 c.requires.1)

returns : tie.Need-returns
returns c = is (sum (held c.ranges.start) (held c.ranges.k) (fit c.args.start c.args.k c.requires.0 c.requires.1))

pub centre_z_spec : {M : Type 1} → statement M
centre_z_spec = tie.close (tie.spec add_result returns)
