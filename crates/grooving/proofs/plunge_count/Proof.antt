-- `grooving::plunge_count` meets its contract.
use borrow.Author.Rules.{rules}
use borrow.Author.Tests.{eq-eqb, ne_eqb}
use native.Mathlib.Omega.{arith}
use Rattle.grooving.specs.Grooving.{plunge_count}
use Rattle.grooving.proofs.plunge_count.Statement.{statement}
use Rattle.grooving.proofs.plunge_count.Tie as tie

cut_count_requires : tie.Need-cut_count-requires
cut_count_requires c κs = search rules

cast_twice : tie.Need-overflow_cast-twice
cast_twice c = search rules

mul_twice : tie.Need-overflow_mul-twice
mul_twice c = search rules

returns : tie.Need-returns-then-g-eq0
unfolding plunge_count
returns c = rw (eq-eqb _ _ c.if-g-eq0.true) (omega (arith, c.cut_count.ensures))

add_result : tie.Need-overflow_add-result
add_result c = search rules

returns_2 : tie.Need-returns
unfolding plunge_count
returns_2 c = rw (ne_eqb _ _ c.if-g-eq0.false) (omega (arith, c.cut_count.ensures))

pub plunge_count_spec : {M : Type 1} → statement M
plunge_count_spec =
    tie.close (tie.spec cut_count_requires cast_twice mul_twice returns add_result returns_2)
