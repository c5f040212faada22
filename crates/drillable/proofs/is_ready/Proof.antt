-- `drillable::is_ready` meets its contract.
use mathlib.Core.Path.{◌≡◌}
use borrow.Author.Rules.{rules}
use Rattle.telling.proofs.Tells.{tells_yes, tells_some, tells_of}
use Rattle.bores.specs.declared.Stage.{Stage}
use Rattle.bores.specs.declared.Stage.TheVariants.{Bite, Home, Back, Dwell, Out, Over}
use Rattle.bores.specs.declared.Cursor.{Cursor}
use Rattle.bores.specs.Cursor.{Ready}
use Rattle.drillable.proofs.is_ready.Statement.{statement}
use Rattle.drillable.proofs.is_ready.Tie as tie

abbrev about : Cursor → Stage → Type 0
about k s = Ready s k

pub is_ready_spec : {M : Type 1} → statement M
is_ready_spec =
    tie.close
    (tie.spec
    (λ c. search rules)
    (λ c. search rules)
    (λ c. search rules)
    (λ c. search rules)
    (λ c. search rules)
    (λ c. search rules)
    (λ c. let k = c.args.c in let e : k.stage ≡ Bite = search rules in tells_of (about k) e (tells_some k.left))
    (λ c. let k = c.args.c in let e : k.stage ≡ Home = search rules in tells_of (about k) e (tells_some k.left))
    (λ c. let k = c.args.c in let e : k.stage ≡ Back = search rules in tells_of (about k) e (tells_some k.left))
    (λ c. let k = c.args.c in let e : k.stage ≡ Dwell = search rules in tells_of (about k) e (tells_yes tt))
    (λ c. let k = c.args.c in let e : k.stage ≡ Out = search rules in tells_of (about k) e (tells_yes tt))
    (λ c. let k = c.args.c in let e : k.stage ≡ Over = search rules in tells_of (about k) e (tells_yes tt)))
