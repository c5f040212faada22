-- `bores::next` meets its contract.
use mathlib.Core.Path.{◌≡◌, sym, ap, ◌∙◌}
use borrow.Author.Rules.{rules}
use Rattle.bores.specs.declared.Stage.TheVariants.{Over}
use Rattle.bores.specs.Cursor.{over_at}
use Rattle.bores.proofs.Cursors.{never}
use Rattle.bores.proofs.next.Statement.{statement}
use Rattle.bores.proofs.next.Tie as tie

-- nothing is left: no caller comes here
go_out_requires_2 : tie.Need-go_out-requires-in-Over
go_out_requires_2 c κs =
    let s = c in
    let e : s.args.c.stage ≡ Over = search rules in
    absurd (never (sym s.requires.1 ∙ ap over_at e))

pub next_spec : {M : Type 1} → statement M
next_spec =
    tie.close
    (tie.spec
    (λ c. search rules)
    (λ c κs. search rules)
    (λ c. search rules)
    (λ c κs. search rules)
    (λ c. search rules)
    (λ c κs. search rules)
    (λ c. search rules)
    (λ c κs. search rules)
    (λ c. search rules)
    (λ c κs. search rules)
    (λ c. search rules)
    go_out_requires_2
    (λ c. search rules)
    (λ c. search rules)
    (λ c. search rules)
    (λ c. search rules)
    (λ c. search rules)
    (λ c. search rules))
