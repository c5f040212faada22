-- `drilling::stroke_of` meets its contract.
use borrow.Author.Rules.{rules}
use mathlib.Core.Path.{◌∙◌}
use Rattle.drilling.proofs.stroke_of.Statement.{statement}
use Rattle.drilling.proofs.stroke_of.Tie as tie

distance_requires : tie.Need-distance-requires
distance_requires c κs = search rules

returns : tie.Need-returns
returns c = c.distance.ensures ∙ search rules

pub stroke_of_spec : {M : Type 1} → statement M
stroke_of_spec = tie.close (tie.spec distance_requires returns)
