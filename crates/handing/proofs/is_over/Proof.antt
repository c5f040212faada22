-- `handing::is_over` meets its contract.
use mathlib.Core.Path.{ap, sym, ◌∙◌}
use mathlib.Core.Bool.{Bool, not, ◌&&◌}
use borrow.Author.Rules.{rules}
use Rattle.stages.specs.Cursor.{over}
use Rattle.handing.proofs.is_over.Statement.{statement}
use Rattle.handing.proofs.is_over.Tie as tie

pub is_over_spec : {M : Type 1} → statement M
is_over_spec =
    tie.close
    (tie.spec
    (λ c. search rules)
    (λ c κs. search rules)
    (λ c. search rules)
    (λ c κs. search rules)
    (λ c. search rules)
    (λ c κs. search rules)
    (λ c. search rules)
    (λ c κs. search rules)
    (λ c. search rules)
    (λ c κs. search rules)
    (λ c. ap (λ (t : Bool). t && not c.args.p.stops) c.is_over.ensures ∙ ap (over c.args.p) (sym c.in-Turning.is))
    (λ c. ap (λ (t : Bool). t && not c.args.p.stops) c.is_over-in-Threading.ensures ∙ ap (over c.args.p) (sym c.in-Threading.is))
    (λ c. ap (λ (t : Bool). t && not c.args.p.stops) c.is_over-in-Grooving.ensures ∙ ap (over c.args.p) (sym c.in-Grooving.is))
    (λ c. ap (λ (t : Bool). t && not c.args.p.stops) c.is_over-in-Drilling.ensures ∙ ap (over c.args.p) (sym c.in-Drilling.is))
    (λ c. c.is_stage_over.ensures ∙ ap (over c.args.p) (sym c.in-Single.is)))
