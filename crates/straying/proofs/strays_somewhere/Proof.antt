-- `straying::strays_somewhere` meets its contract.
use borrow.Author.Rules.{rules}
use mathlib.Core.Bool.{◌||◌}
use Rattle.straying.specs.Straying.{strays_somewhere}
use Rattle.straying.proofs.strays_somewhere.Statement.{statement}
use Rattle.straying.proofs.strays_somewhere.Tie as tie

strays_at_requires : tie.Need-strays_at-east-requires
strays_at_requires c κs = search rules

strays_at_requires_2 : tie.Need-strays_at-north-requires
strays_at_requires_2 c κs = search rules

strays_at_requires_3 : tie.Need-strays_at-west-requires
strays_at_requires_3 c κs = search rules

strays_at_requires_4 : tie.Need-strays_at-south-requires
strays_at_requires_4 c κs = search rules

returns : tie.Need-returns
unfolding strays_somewhere
returns c = λ i. c.strays_at-east.ensures i || c.strays_at-north.ensures i || c.strays_at-west.ensures i || c.strays_at-south.ensures i

pub strays_somewhere_spec : {M : Type 1} → statement M
strays_somewhere_spec =
    tie.close
    (tie.spec
    strays_at_requires
    strays_at_requires_2
    strays_at_requires_3
    strays_at_requires_4
    returns)
