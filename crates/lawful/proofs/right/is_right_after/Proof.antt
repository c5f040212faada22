-- `lawful::right::is_right_after` meets its contract.
use mathlib.Core.Path.{sym, ◌∙◌}
use mathlib.Core.Bool.{◌&&◌}
use borrow.Author.Rules.{rules}
use Rattle.lawful.specs.Right.{is_right}
use Rattle.lawful.proofs.right.is_right_after.Statement.{statement}
use Rattle.lawful.proofs.right.is_right_after.Tie as tie

returns : tie.Need-returns-then-in_turn
returns c =
    let t = c in
    let e = sym t.in_turn.ensures ∙ t.if-in_turn.true in
    λ i. sym e i && c.is_right.ensures i

returns_2 : tie.Need-returns
returns_2 c =
    let s = c in
    let e = sym c.in_turn.ensures ∙ c.if-in_turn.false in
    λ i. sym e i && is_right s.args.what

pub is_right_after_spec : {M : Type 1} → statement M
is_right_after_spec = tie.close (tie.spec (λ c κs. search rules) (λ c κs. search rules) returns returns_2)
