-- `planwords::stops_of` meets its contract.
use borrow.Author.Rules.{rules}
use Rattle.planwords.specs.Plan.{plan_of}
use Rattle.planwords.proofs.stops_of.Statement.{statement}
use Rattle.planwords.proofs.stops_of.Tie as tie

returns : tie.Need-returns
unfolding plan_of
returns c = λ d. c.flag_at.ensures

pub stops_of_spec : {M : Type 1} → statement M
stops_of_spec = tie.close (tie.spec (λ c κs. search rules) returns)
