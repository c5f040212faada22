-- `cycles::record_count` meets its contract.
use mathlib.Core.Path.{◌∙◌}
use borrow.Author.Rules.{rules}
use Rattle.cycles.proofs.Matched.{right, known, counts}
use Rattle.cycles.proofs.record_count.Statement.{statement}
use Rattle.cycles.proofs.record_count.Tie as tie

pub record_count_spec : {M : Type 1} → statement M
record_count_spec =
    tie.close
    (tie.spec
    (λ c. search rules)
    (λ c κs. right c.in-Turning.is c.requires.0)
    (λ c. search rules)
    (λ c κs. let is = c.in-Threading.is in let h = c.requires in ((known is h.1).3, right is h.0))
    (λ c. search rules)
    (λ c κs.
    let is = c.in-Grooving.is in
    let n = known is c.requires.1 in
    (right is c.requires.0, n.4, n.5))
    (λ c. search rules)
    (λ c κs. right c.in-Drilling.is c.requires.0)
    (λ c. c.record_count.ensures ∙ counts c.in-Turning.is)
    (λ c. c.record_count-in-Threading.ensures ∙ counts c.in-Threading.is)
    (λ c. c.record_count-in-Grooving.ensures ∙ counts c.in-Grooving.is)
    (λ c. c.record_count-in-Drilling.ensures ∙ counts c.in-Drilling.is))
