-- `cycles::ends_outside` meets its contract.
use mathlib.Core.Path.{◌∙◌}
use borrow.Author.Rules.{rules}
use Rattle.cycles.proofs.Matched.{right, known, asks}
use Rattle.cycles.proofs.ends_outside.Statement.{statement}
use Rattle.cycles.proofs.ends_outside.Tie as tie

pub ends_outside_spec : {M : Type 1} → statement M
ends_outside_spec =
    tie.close
    (tie.spec
    (λ c. search rules)
    (λ c κs. right c.in-Turning.is c.requires.0)
    (λ c. search rules)
    (λ c κs. let is = c.in-Threading.is in let h = c.requires in ((known is h.1).3, right is h.0))
    (λ c. search rules)
    (λ c κs. right c.in-Grooving.is c.requires.0)
    (λ c. search rules)
    (λ c κs. right c.in-Drilling.is c.requires.0)
    (λ c. c.ends_outside.ensures ∙ asks c.in-Turning.is c.args.l)
    (λ c. c.ends_outside-in-Threading.ensures ∙ asks c.in-Threading.is c.args.l)
    (λ c. c.ends_outside-in-Grooving.ensures ∙ asks c.in-Grooving.is c.args.l)
    (λ c. c.ends_outside-in-Drilling.ensures ∙ asks c.in-Drilling.is c.args.l))
