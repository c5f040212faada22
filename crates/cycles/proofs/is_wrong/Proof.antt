-- `cycles::is_wrong` meets its contract.
use mathlib.Core.Path.{ap, sym, ◌∙◌}
use borrow.Author.Rules.{rules}
use Rattle.cycles.specs.Cycle.{wrong}
use Rattle.cycles.proofs.is_wrong.Statement.{statement}
use Rattle.cycles.proofs.is_wrong.Tie as tie

pub is_wrong_spec : {M : Type 1} → statement M
is_wrong_spec =
    tie.close
    (tie.spec
    (λ c. search rules)
    (λ c κs. search rules)
    (λ c. search rules)
    (λ c κs. search rules)
    (λ c. search rules)
    (λ c κs. search rules)
    (λ c. search rules)
    (λ c κs. search rules)
    (λ c. c.is_wrong.ensures ∙ ap wrong (sym c.in-Turning.is))
    (λ c. c.is_wrong-in-Threading.ensures ∙ ap wrong (sym c.in-Threading.is))
    (λ c. c.is_wrong-in-Grooving.ensures ∙ ap wrong (sym c.in-Grooving.is))
    (λ c. c.is_wrong-in-Drilling.ensures ∙ ap wrong (sym c.in-Drilling.is)))
