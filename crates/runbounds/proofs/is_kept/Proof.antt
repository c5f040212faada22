-- `runbounds::is_kept` meets its contract.
use borrow.Author.Rules.{rules}
use Rattle.runbounds.proofs.Keeping.{tells_kept}
use Rattle.runbounds.proofs.is_kept.Statement.{statement}
use Rattle.runbounds.proofs.is_kept.Tie as tie

returns : tie.Need-returns
returns c = tells_kept c.wait_within-wait.ensures c.is_fitting-answer.ensures

pub is_kept_spec : {M : Type 1} → statement M
is_kept_spec =
    tie.close
    (tie.spec
    (λ c κs. search rules)
    (λ c κs. search rules)
    returns)
