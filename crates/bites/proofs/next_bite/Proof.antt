-- `bites::next_bite` meets its contract.
use borrow.Author.Rules.{rules}
use Prim.Native.Nat.{ℕ, ◌-◌, ◌*◌, ◌≤◌}
use native.Mathlib.Nat.{mul-le-mul_left}
use native.Mathlib.Omega.{arith}
use Rattle.bites.specs.Bites.{next_bite}
use Rattle.bites.proofs.next_bite.Statement.{statement}
use Rattle.bites.proofs.next_bite.Tie as tie

-- the product is at most a hundred times the bite
small : (bite less : ℕ) → bite * (100 - less) ≤ 100 * bite
small bite less = omega (arith, mul-le-mul_left {m = 100 - less} {n = 100} bite (omega arith))

sub_part : tie.Need-overflow_sub-part
sub_part c = search rules

cast_part : tie.Need-overflow_cast-part-2
cast_part c = search rules

mul_part : tie.Need-overflow_mul-part
mul_part c = omega (arith, small c.args.bite c.args.less)

cast_part_2 : tie.Need-overflow_cast-part-3
cast_part_2 c = omega (arith, small c.args.bite c.args.less)

returns : tie.Need-returns-then-part-least
unfolding next_bite
returns c = omega arith

returns_2 : tie.Need-returns
unfolding next_bite
returns_2 c = omega arith

pub next_bite_spec : {M : Type 1} → statement M
next_bite_spec = tie.close (tie.spec sub_part cast_part mul_part cast_part_2 returns returns_2)
