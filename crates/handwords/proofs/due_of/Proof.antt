-- `handwords::due_of` meets its contract.
use borrow.Author.Rules.{rules}
use Rattle.handwords.specs.Due.{due_by}
use Rattle.handwords.proofs.due_of.Statement.{statement}
use Rattle.handwords.proofs.due_of.Tie as tie

returns : tie.Need-returns
unfolding due_by
returns c = c.due_from.ensures

pub due_of_spec : {M : Type 1} → statement M
due_of_spec = tie.close (tie.spec (λ c. search rules) (λ c κs. search rules) returns)
