-- `resumable::is_fit` meets its contract.
use borrow.Author.Rules.{rules}
use Rattle.resumable.proofs.Fit.{tells_turning, tells_threading, tells_grooving, tells_drilling, tells_single}
use Rattle.resumable.proofs.is_fit.Statement.{statement}
use Rattle.resumable.proofs.is_fit.Tie as tie

pub is_fit_spec : {M : Type 1} → statement M
is_fit_spec =
    tie.close
    (tie.spec
    (λ c. search rules)
    (λ c κs. search rules)
    (λ c. search rules)
    (λ c κs. search rules)
    (λ c. search rules)
    (λ c κs. search rules)
    (λ c. search rules)
    (λ c κs. search rules)
    (λ c. search rules)
    (λ c κs. search rules)
    (λ c. tells_turning c.in-Turning.is c.is_fit.ensures)
    (λ c. tells_threading c.in-Threading.is c.is_fit-in-Threading.ensures)
    (λ c. tells_grooving c.in-Grooving.is c.is_fit-in-Grooving.ensures)
    (λ c. tells_drilling c.in-Drilling.is c.is_fit-in-Drilling.ensures)
    (λ c. tells_single c.in-Single.is c.is_from_deed.ensures))
