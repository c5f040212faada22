-- `opening::own_of_round` meets its contract.
use mathlib.Core.Bool.{true}
use borrow.Author.Rules.{rules}
use Rattle.opening.specs.Opened.{own_of_round}
use Rattle.opening.proofs.own_of_round.Statement.{statement}
use Rattle.opening.proofs.own_of_round.Tie as tie

returns : tie.Need-returns
unfolding own_of_round
returns c = λ i. record { goes = c.end_record-goes.ensures i; centre = c.centre_record-centre.ensures i; has_centre = true }

pub own_of_round_spec : {M : Type 1} → statement M
own_of_round_spec = tie.close (tie.spec (λ c κs. search rules) (λ c κs. search rules) returns)
