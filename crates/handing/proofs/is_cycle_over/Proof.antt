-- `handing::is_cycle_over` meets its contract.
use mathlib.Core.Path.{ap, sym, ◌∙◌}
use borrow.Author.Rules.{rules}
use Rattle.stages.specs.Cursor.{cycle_over}
use Rattle.handing.proofs.is_cycle_over.Statement.{statement}
use Rattle.handing.proofs.is_cycle_over.Tie as tie

pub is_cycle_over_spec : {M : Type 1} → statement M
is_cycle_over_spec =
    tie.close
    (tie.spec
    (λ c. search rules)
    (λ c κs. search rules)
    (λ c. search rules)
    (λ c κs. search rules)
    (λ c. search rules)
    (λ c κs. search rules)
    (λ c. search rules)
    (λ c κs. search rules)
    (λ c. search rules)
    (λ c. c.is_over.ensures ∙ ap cycle_over (sym c.in-Turning.is))
    (λ c. c.is_over-in-Threading.ensures ∙ ap cycle_over (sym c.in-Threading.is))
    (λ c. c.is_over-in-Grooving.ensures ∙ ap cycle_over (sym c.in-Grooving.is))
    (λ c. c.is_over-in-Drilling.ensures ∙ ap cycle_over (sym c.in-Drilling.is))
    (λ c. search rules))
