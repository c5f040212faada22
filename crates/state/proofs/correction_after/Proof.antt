-- `state::correction_after` meets its contract.
use mathlib.Core.Path.{ap}
use Prim.Native.Nat.{ℕ, ◌%◌}
use Rattle.block.specs.Slots.{t_slot, code_in}
use Rattle.state.specs.Modal.{correction_after}
use Rattle.state.proofs.Settling.{given, stays}
use borrow.Author.Rules.{rules}
use Rattle.state.proofs.correction_after.Statement.{statement}
use Rattle.state.proofs.correction_after.Tie as tie

has_requires : tie.Need-has-requires
has_requires c κs = search rules

code_in_requires : tie.Need-code_in-requires
code_in_requires c κs = search rules

returns : tie.Need-returns-then-has
unfolding correction_after
returns c =
    let h = c in
    let a = h.args in
    given a.before h.has.ensures h.if-has.true
    (ap (λ (m : ℕ). m % 100) c.code_in.ensures)

returns_2 : tie.Need-returns
unfolding correction_after
returns_2 c =
    let a = c.args in
    stays (code_in a.b t_slot % 100) a.before c.has.ensures c.if-has.false

pub correction_after_spec : {M : Type 1} → statement M
correction_after_spec = tie.close (tie.spec has_requires code_in_requires returns returns_2)
