-- `grooving::length_of` meets its contract.
use borrow.Author.Rules.{rules}
use mathlib.Core.Path.{◌∙◌}
use Rattle.grooving.proofs.length_of.Statement.{statement}
use Rattle.grooving.proofs.length_of.Tie as tie

distance_requires : tie.Need-distance-requires
distance_requires c κs = search rules

returns : tie.Need-returns
returns c = c.distance.ensures ∙ search rules

pub length_of_spec : {M : Type 1} → statement M
length_of_spec = tie.close (tie.spec distance_requires returns)
