-- `passes::next` meets its contract.
use mathlib.Core.Path.{◌≡◌}
use borrow.Author.Rules.{rules}
use Rattle.axes.specs.declared.Stage.TheVariants.{In}
use Rattle.passes.proofs.Cursors.{some_left}
use Rattle.passes.proofs.next.Statement.{statement}
use Rattle.passes.proofs.next.Tie as tie

go_in_requires : tie.Need-go_in-requires
go_in_requires c κs =
    let s = c in
    let e : s.args.c.stage ≡ In = search rules in
    (s.requires.0, e, some_left s.args.c s.requires.1 e)

pub next_spec : {M : Type 1} → statement M
next_spec =
    tie.close
    (tie.spec
    (λ c. search rules)
    go_in_requires
    (λ c. search rules)
    (λ c κs. search rules)
    (λ c. search rules)
    (λ c κs. search rules)
    (λ c. search rules)
    (λ c κs. search rules)
    (λ c. search rules)
    (λ c. search rules)
    (λ c. search rules)
    (λ c. search rules))
