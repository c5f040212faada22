-- `answers::start_of` meets its contract.
use mathlib.Core.Path.{◌≡◌, ◌∙◌}
use mir.Syntax.{w32}
use mir.Val.{to_z, of_z}
use borrow.Author.Rules.{rules}
use Rattle.state.specs.Modal.{at_start}
use Rattle.answers.proofs.start_of.Statement.{statement}
use Rattle.answers.proofs.start_of.Tie as tie

at_start_requires : tie.Need-at_start-requires
at_start_requires c κs = search rules

returns : tie.Need-returns
returns c =
    let s = c in
    let x : to_z w32 (of_z w32 s.args.set.x) ≡ s.args.set.x = search rules in
    let z : to_z w32 (of_z w32 s.args.set.z) ≡ s.args.set.z = search rules in
    let e = c.at_start.ensures ∙ λ i. at_start (x i) (z i) in
    λ i. record { state = e i; blocks_left = 20_000; count = 0 }

pub start_of_spec : {M : Type 1} → statement M
start_of_spec = tie.close (tie.spec at_start_requires returns)
