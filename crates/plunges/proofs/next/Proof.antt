-- `plunges::next` meets its contract.
use mathlib.Core.Path.{◌≡◌, sym, ap, ◌∙◌}
use borrow.Author.Rules.{rules}
use Rattle.plunges.specs.declared.Stage.TheVariants.{Over}
use Rattle.plunges.specs.Cursor.{over_at}
use Rattle.plunges.proofs.Cursors.{never}
use Rattle.plunges.proofs.next.Statement.{statement}
use Rattle.plunges.proofs.next.Tie as tie

-- nothing is left: no caller comes here
go_across_requires_2 : tie.Need-go_across-requires-in-Over
go_across_requires_2 c κs =
    let s = c in
    let e : s.args.c.stage ≡ Over = search rules in
    absurd (never (sym s.requires.1 ∙ ap over_at e))

pub next_spec : {M : Type 1} → statement M
next_spec =
    tie.close
    (tie.spec
    (λ c. search rules)
    (λ c κs. search rules)
    (λ c. search rules)
    (λ c κs. search rules)
    (λ c. search rules)
    (λ c κs. search rules)
    (λ c. search rules)
    (λ c κs. search rules)
    (λ c. search rules)
    (λ c κs. search rules)
    (λ c. search rules)
    go_across_requires_2
    (λ c. search rules)
    (λ c. search rules)
    (λ c. search rules)
    (λ c. search rules)
    (λ c. search rules)
    (λ c. search rules))
