-- `rules::is_foreign` meets its contract.
use mathlib.Core.Path.{ap}
use mathlib.Core.Bool.{not}
use borrow.Author.Tests.{eq-eqb, ne_eqb}
use borrow.Author.Rules.{rules}
use Rattle.rules.proofs.is_foreign.Statement.{statement}
use Rattle.rules.proofs.is_foreign.Tie as tie

returns : tie.Need-returns-then-place-eq0
returns c = rw (eq-eqb c.args.place 0 c.if-place-eq0.true)

is_taken_requires : tie.Need-is_taken-requires
is_taken_requires c κs = search rules

returns_2 : tie.Need-returns
returns_2 c = rw (ne_eqb c.args.place 0 c.if-place-eq0.false) (ap not c.is_taken.ensures)

pub is_foreign_spec : {M : Type 1} → statement M
is_foreign_spec = tie.close (tie.spec returns is_taken_requires returns_2)
