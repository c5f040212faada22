-- `threads::go_in` meets its contract.
use mathlib.Core.Path.{◌≡◌, sym, ◌∙◌}
use mathlib.Core.Bool.{true}
use borrow.Author.Rules.{rules}
use Rattle.cuts.specs.Cuts as cut
use Rattle.threads.proofs.Cursors.{some_empty}
use Rattle.threads.proofs.go_in.Statement.{statement}
use Rattle.threads.proofs.go_in.Tie as tie

go_in_again_requires : tie.Need-go_in_again-requires
go_in_again_requires c κs =
    let o = c in
    let s = o in
    let none : cut.over s.args.c.cuts ≡ true = sym o.is_over.ensures ∙ c.if-is_over.true in
    (s.requires.0, s.requires.1, none, some_empty s.args.c s.requires.2 s.requires.1 none)

go_deeper_requires : tie.Need-go_deeper-requires
go_deeper_requires c κs = let o = c in let s = o in (s.requires.0, s.requires.1, sym o.is_over.ensures ∙ c.if-is_over.false)

pub go_in_spec : {M : Type 1} → statement M
go_in_spec =
    tie.close (tie.spec (λ c κs. search rules) go_in_again_requires (λ c. search rules) go_deeper_requires (λ c. search rules))
