-- `passes::next_pass` meets its contract.
use borrow.Author.Rules.{rules}
use Rattle.passes.proofs.Cursors.{no_pass_begun, some_left, four_make}
use Rattle.passes.proofs.next_pass.Statement.{statement}
use Rattle.passes.proofs.next_pass.Tie as tie

go_in_requires : tie.Need-go_in-first-requires
go_in_requires c κs =
    let k = c.args.c in
    let stage = no_pass_begun k c.requires.1 in
    (c.requires.0, stage, some_left k c.requires.2 stage)

returns : tie.Need-returns
returns c =
    let fourth = c in
    let third = fourth in
    let second = third in
    let first = second in
    four_make first.go_in-first.ensures.0 second.cut-second.ensures.0 third.go_out-third.ensures.0 fourth.go_back-fourth.ensures.0 fourth.go_back-fourth.ensures.1

pub next_pass_spec : {M : Type 1} → statement M
next_pass_spec = tie.close (tie.spec go_in_requires (λ c κs. search rules) (λ c κs. search rules) (λ c κs. search rules) returns)
