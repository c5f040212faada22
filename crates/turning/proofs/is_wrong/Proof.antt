-- `turning::is_wrong` meets its contract.
use borrow.Author.Rules.{rules}
use mathlib.Core.Bool.{◌||◌}
use lib.Dec.{eqb}
use Rattle.turning.specs.Turning.{too_short}
use Rattle.turning.proofs.is_wrong.Statement.{statement}
use Rattle.turning.proofs.is_wrong.Tie as tie

net_of_requires : tie.Need-net_of-requires
net_of_requires c κs = search rules

net_of_requires_2 : tie.Need-net_of-requires-2
net_of_requires_2 c κs = search rules

returns : tie.Need-returns
unfolding too_short
returns c = λ i. eqb (c.net_of.ensures i) 0 || eqb (c.net_of-2.ensures i) 0

pub is_wrong_spec : {M : Type 1} → statement M
is_wrong_spec = tie.close (tie.spec net_of_requires net_of_requires_2 returns)
