-- `threads::is_over` meets its contract.
use mathlib.Core.Path.{◌≡◌, sym, ◌∙◌, ap}
use mathlib.Core.Bool.{Bool, ◌&&◌}
use lib.Dec.{eqb}
use borrow.Author.Rules.{rules}
use Rattle.axes.specs.declared.Stage.TheVariants.{In, Cut, Out, Back}
use Rattle.threads.proofs.Cursors.{over_at_lem}
use Rattle.threads.proofs.is_over.Statement.{statement}
use Rattle.threads.proofs.is_over.Tie as tie

pub is_over_spec : {M : Type 1} → statement M
is_over_spec =
    tie.close
    (tie.spec
    (λ c. search rules)
    (λ c κs. search rules)
    (λ c. search rules)
    (λ c. search rules)
    (λ c. search rules)
    (λ c.
    let k = c.args.c in
    let e : k.stage ≡ In = search rules in
    ap (λ (t : Bool). t && eqb k.empty 0) c.is_over.ensures ∙ sym (over_at_lem k e))
    (λ c. let k = c.args.c in let e : k.stage ≡ Cut = search rules in sym (over_at_lem k e))
    (λ c. let k = c.args.c in let e : k.stage ≡ Out = search rules in sym (over_at_lem k e))
    (λ c. let k = c.args.c in let e : k.stage ≡ Back = search rules in sym (over_at_lem k e)))
