-- `groovable::is_ready` meets its contract.
use mathlib.Core.Path.{◌≡◌}
use borrow.Author.Rules.{rules}
use Rattle.telling.proofs.Tells.{tells_yes, tells_some, tells_of}
use Rattle.plunges.specs.declared.Stage.{Stage}
use Rattle.plunges.specs.declared.Stage.TheVariants.{Cut, Back, Dwell, Out, Across, Over}
use Rattle.plunges.specs.declared.Cursor.{Cursor}
use Rattle.plunges.specs.Cursor.{Ready}
use Rattle.groovable.proofs.is_ready.Statement.{statement}
use Rattle.groovable.proofs.is_ready.Tie as tie

abbrev about : Cursor → Stage → Type 0
about k s = Ready s k

pub is_ready_spec : {M : Type 1} → statement M
is_ready_spec =
    tie.close
    (tie.spec
    (λ c. search rules)
    (λ c. search rules)
    (λ c. search rules)
    (λ c. search rules)
    (λ c. search rules)
    (λ c. search rules)
    (λ c. let k = c.args.c in let e : k.stage ≡ Cut = search rules in tells_of (about k) e (tells_some k.cuts.left))
    (λ c. let k = c.args.c in let e : k.stage ≡ Back = search rules in tells_of (about k) e (tells_some k.cuts.left))
    (λ c. let k = c.args.c in let e : k.stage ≡ Dwell = search rules in tells_of (about k) e (tells_yes tt))
    (λ c. let k = c.args.c in let e : k.stage ≡ Out = search rules in tells_of (about k) e (tells_yes tt))
    (λ c. let k = c.args.c in let e : k.stage ≡ Across = search rules in tells_of (about k) e (tells_yes tt))
    (λ c. let k = c.args.c in let e : k.stage ≡ Over = search rules in tells_of (about k) e (tells_yes tt)))
