-- `rules::axis_twice` meets its contract.
use Rattle.rules.specs.Rules.{axis_twice}
use Rattle.rules.proofs.Ruling.{both, either}
use borrow.Author.Rules.{rules}
use Rattle.rules.proofs.axis_twice.Statement.{statement}
use Rattle.rules.proofs.axis_twice.Tie as tie

has_requires : tie.Need-has-requires
has_requires c κs = search rules

has_requires_2 : tie.Need-has-requires-2
has_requires_2 c κs = search rules

has_requires_3 : tie.Need-has-requires-3
has_requires_3 c κs = search rules

has_requires_4 : tie.Need-has-requires-4
has_requires_4 c κs = search rules

returns : tie.Need-returns
unfolding axis_twice
returns c =
    let x = c in
    either (both x.has.ensures x.has-2.ensures) (both c.has-3.ensures c.has-4.ensures)

pub axis_twice_spec : {M : Type 1} → statement M
axis_twice_spec =
    tie.close (tie.spec has_requires has_requires_2 has_requires_3 has_requires_4 returns)
