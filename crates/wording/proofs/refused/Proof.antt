-- `wording::refused` meets its contract.
use mathlib.Core.Path.{ap}
use borrow.Author.Rules.{rules}
use Rattle.taking.specs.declared.StepDone.{StepDone}
use Rattle.taking.specs.declared.Hand.TheVariants.{Nothing}
use Rattle.taking.specs.declared.Opened.{Opened}
use Rattle.wording.proofs.refused.Statement.{statement}
use Rattle.wording.proofs.refused.Tie as tie

returns : tie.Need-returns
returns c = ap {B = Opened} (λ (x : StepDone). record { done = x; hand = Nothing }) c.stopped-done.ensures

pub refused_spec : {M : Type 1} → statement M
refused_spec = tie.close (tie.spec (λ c κs. search rules) returns)
