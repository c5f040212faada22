-- `bores::is_over` meets its contract.
use mathlib.Core.Path.{◌≡◌, sym, ap}
use borrow.Author.Rules.{rules}
use Rattle.bores.specs.declared.Stage.TheVariants.{Bite, Home, Back, Dwell, Out, Over}
use Rattle.bores.specs.Cursor.{over_at}
use Rattle.bores.proofs.is_over.Statement.{statement}
use Rattle.bores.proofs.is_over.Tie as tie

pub is_over_spec : {M : Type 1} → statement M
is_over_spec =
    tie.close
    (tie.spec
    (λ c. search rules)
    (λ c. search rules)
    (λ c. search rules)
    (λ c. search rules)
    (λ c. search rules)
    (λ c. search rules)
    (λ c. let k = c.args.c in let e : k.stage ≡ Bite = search rules in ap over_at (sym e))
    (λ c. let k = c.args.c in let e : k.stage ≡ Home = search rules in ap over_at (sym e))
    (λ c. let k = c.args.c in let e : k.stage ≡ Back = search rules in ap over_at (sym e))
    (λ c. let k = c.args.c in let e : k.stage ≡ Dwell = search rules in ap over_at (sym e))
    (λ c. let k = c.args.c in let e : k.stage ≡ Out = search rules in ap over_at (sym e))
    (λ c. let k = c.args.c in let e : k.stage ≡ Over = search rules in ap over_at (sym e)))
