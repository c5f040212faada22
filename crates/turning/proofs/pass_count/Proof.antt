-- `turning::pass_count` meets its contract.
use borrow.Author.Rules.{rules}
use borrow.Author.Tests.{eq-eqb, ne_eqb}
use Rattle.turning.specs.Turning.{pass_count}
use Rattle.turning.proofs.pass_count.Statement.{statement}
use Rattle.turning.proofs.pass_count.Tie as tie

returns : tie.Need-returns-then-division-eq0
unfolding pass_count
returns c = rw (eq-eqb _ _ c.if-division-eq0.true)

piece_count_requires : tie.Need-piece_count-requires
piece_count_requires c κs = search rules

returns_2 : tie.Need-returns
unfolding pass_count
returns_2 c = rw (ne_eqb _ _ c.if-division-eq0.false) c.piece_count.ensures

pub pass_count_spec : {M : Type 1} → statement M
pass_count_spec = tie.close (tie.spec returns piece_count_requires returns_2)
