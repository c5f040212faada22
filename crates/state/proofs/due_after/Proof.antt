-- `state::due_after` meets its contract.
use mathlib.Core.Bool.{◌||◌}
use Rattle.state.specs.Modal.{due_after}
use borrow.Author.Rules.{rules}
use Rattle.state.proofs.due_after.Statement.{statement}
use Rattle.state.proofs.due_after.Tie as tie

has_requires : tie.Need-has-requires
has_requires c κs = search rules

has_requires_2 : tie.Need-has-requires-2
has_requires_2 c κs = search rules

has_requires_3 : tie.Need-has-requires-3
has_requires_3 c κs = search rules

returns : tie.Need-returns
unfolding due_after
returns c = λ i. c.args.before || (c.has-3.ensures i || (c.has.ensures i || c.has-2.ensures i))

pub due_after_spec : {M : Type 1} → statement M
due_after_spec =
    tie.close (tie.spec has_requires has_requires_2 has_requires_3 returns)
