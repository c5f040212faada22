-- `plunges::before::is_before_dwell` meets its contract.
use mathlib.Core.Path.{◌≡◌, sym, ap}
use borrow.Author.Rules.{rules}
use Rattle.plunges.specs.declared.Stage.TheVariants.{Cut, Back, Dwell, Out, Across, Over}
use Rattle.plunges.specs.Cursor.{before_dwell_at}
use Rattle.plunges.proofs.before.is_before_dwell.Statement.{statement}
use Rattle.plunges.proofs.before.is_before_dwell.Tie as tie

pub is_before_dwell_spec : {M : Type 1} → statement M
is_before_dwell_spec =
    tie.close
    (tie.spec
    (λ c. search rules)
    (λ c. search rules)
    (λ c. search rules)
    (λ c. search rules)
    (λ c. search rules)
    (λ c. search rules)
    (λ c. let k = c.args.c in let e : k.stage ≡ Cut = search rules in ap before_dwell_at (sym e))
    (λ c. let k = c.args.c in let e : k.stage ≡ Back = search rules in ap before_dwell_at (sym e))
    (λ c. let k = c.args.c in let e : k.stage ≡ Dwell = search rules in ap before_dwell_at (sym e))
    (λ c. let k = c.args.c in let e : k.stage ≡ Out = search rules in ap before_dwell_at (sym e))
    (λ c. let k = c.args.c in let e : k.stage ≡ Across = search rules in ap before_dwell_at (sym e))
    (λ c. let k = c.args.c in let e : k.stage ≡ Over = search rules in ap before_dwell_at (sym e)))
