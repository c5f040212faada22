-- `axes::distance_of` meets its contract.
use borrow.Author.Rules.{rules}
use mathlib.Core.Path.{◌∙◌}
use Rattle.axes.proofs.distance_of.Statement.{statement}
use Rattle.axes.proofs.distance_of.Tie as tie

pub distance_of_spec : {M : Type 1} → statement M
distance_of_spec = tie.close (tie.spec (λ c κs. search rules) (λ c. c.distance.ensures ∙ search rules))
