-- `state::feed_after` meets its contract.
use Rattle.block.specs.Slots.{f_slot, code_in}
use Rattle.state.specs.Modal.{feed_after}
use Rattle.state.proofs.Settling.{given, stays}
use borrow.Author.Rules.{rules}
use Rattle.state.proofs.feed_after.Statement.{statement}
use Rattle.state.proofs.feed_after.Tie as tie

has_requires : tie.Need-has-requires
has_requires c κs = search rules

code_in_requires : tie.Need-code_in-requires
code_in_requires c κs = search rules

returns : tie.Need-returns-then-has
unfolding feed_after
returns c =
    let h = c in
    let a = h.args in
    given a.before h.has.ensures h.if-has.true c.code_in.ensures

returns_2 : tie.Need-returns
unfolding feed_after
returns_2 c =
    let a = c.args in
    stays (code_in a.b f_slot) a.before c.has.ensures c.if-has.false

pub feed_after_spec : {M : Type 1} → statement M
feed_after_spec = tie.close (tie.spec has_requires code_in_requires returns returns_2)
