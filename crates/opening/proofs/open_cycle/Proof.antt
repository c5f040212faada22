-- `opening::open_cycle` meets its contract.
use mathlib.Core.Path.{ap, sym, ◌∙◌}
use borrow.Author.Rules.{rules}
use Rattle.cycles.specs.Cycle.{records}
use Rattle.cycles.proofs.Matched.{right, known}
use Rattle.opening.proofs.Opening.{turning_opens, threading_opens, grooving_opens, drilling_opens}
use Rattle.opening.proofs.open_cycle.Statement.{statement}
use Rattle.opening.proofs.open_cycle.Tie as tie

open_requires_2 : tie.Need-open-requires-in-Threading
open_requires_2 c κs = let is = c.in-Threading.is in let h = c.requires in ((known is h.1).3, right is h.0)

pub open_cycle_spec : {M : Type 1} → statement M
open_cycle_spec =
    tie.close
    (tie.spec
    (λ c. search rules)
    (λ c κs. right c.in-Turning.is c.requires.0)
    (λ c. search rules)
    open_requires_2
    (λ c. search rules)
    (λ c κs. right c.in-Grooving.is c.requires.0)
    (λ c. search rules)
    (λ c κs. right c.in-Drilling.is c.requires.0)
    (λ c. turning_opens (c.open.ensures.0 ∙ ap records (sym c.in-Turning.is)) c.open.ensures.1)
    (λ c. threading_opens (c.open-in-Threading.ensures.0 ∙ ap records (sym c.in-Threading.is)) c.open-in-Threading.ensures.1)
    (λ c. grooving_opens (c.open-in-Grooving.ensures.0 ∙ ap records (sym c.in-Grooving.is)) c.open-in-Grooving.ensures.1)
    (λ c. drilling_opens (c.open-in-Drilling.ensures.0 ∙ ap records (sym c.in-Drilling.is)) c.open-in-Drilling.ensures.1))
