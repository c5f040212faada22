-- `deeds::has_centre` meets its contract.
use mathlib.Core.Bool.{◌||◌}
use Rattle.deeds.specs.Deed.{has_centre}
use borrow.Author.Rules.{rules}
use Rattle.deeds.proofs.has_centre.Statement.{statement}
use Rattle.deeds.proofs.has_centre.Tie as tie

has_requires : tie.Need-has-requires
has_requires c κs = search rules

has_requires_2 : tie.Need-has-requires-2
has_requires_2 c κs = search rules

returns : tie.Need-returns
unfolding has_centre
returns c = λ i. c.has.ensures i || c.has-2.ensures i

pub has_centre_spec : {M : Type 1} → statement M
has_centre_spec = tie.close (tie.spec has_requires has_requires_2 returns)
