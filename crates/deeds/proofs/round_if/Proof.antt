-- `deeds::round_if` meets its contract.
use mathlib.Core.Path.{ap}
use Rattle.state.proofs.Settling.{given, stays}
use Rattle.deeds.specs.declared.Deed.TheVariants.{Nothing, Round}
use Rattle.deeds.specs.Deed.{round_of, round_if}
use borrow.Author.Rules.{rules}
use Rattle.deeds.proofs.round_if.Statement.{statement}
use Rattle.deeds.proofs.round_if.Tie as tie

has_path_requires : tie.Need-has_path-requires
has_path_requires c κs = search rules

round_of_requires : tie.Need-round_of-requires
round_of_requires c κs = search rules

returns : tie.Need-returns-then-has_path
unfolding round_if
returns c = given Nothing c.has_path.ensures c.if-has_path.true (ap Round c.round_of.ensures)

returns_2 : tie.Need-returns
unfolding round_if
returns_2 c = let a = c.args in stays (Round (round_of a.clockwise a.b a.s)) Nothing c.has_path.ensures c.if-has_path.false

pub round_if_spec : {M : Type 1} → statement M
round_if_spec = tie.close (tie.spec has_path_requires round_of_requires returns returns_2)
