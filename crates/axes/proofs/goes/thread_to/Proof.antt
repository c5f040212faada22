-- `axes::goes::thread_to` meets its contract.
use mathlib.Core.Path.{◌∙◌}
use mir.Facts.{to_z-of_z}
use borrow.Author.Rules.{rules}
use Rattle.moves.specs.Kinds.{thread}
use Rattle.axes.specs.Goes.{thread_to}
use Rattle.axes.proofs.Axes.{picked}
use Rattle.axes.proofs.goes.thread_to.Statement.{statement}
use Rattle.axes.proofs.goes.thread_to.Tie as tie

thread_requires : tie.Need-thread-requires
thread_requires c κs = search rules

returns : tie.Need-returns-then-facing
unfolding thread_to
returns c =
    let s = c in
    picked (thread s.args.across s.args.inward s.args.pitch) (thread s.args.inward s.args.across s.args.pitch) c.if-facing.true
    (c.thread.ensures ∙ λ i. thread (to_z-of_z s.ranges.across i) (to_z-of_z s.ranges.inward i) s.args.pitch)

thread_requires_2 : tie.Need-thread-requires-2
thread_requires_2 c κs = search rules

returns_2 : tie.Need-returns
unfolding thread_to
returns_2 c =
    let s = c in
    picked (thread s.args.across s.args.inward s.args.pitch) (thread s.args.inward s.args.across s.args.pitch) c.if-facing.false
    (c.thread-2.ensures ∙ λ i. thread (to_z-of_z s.ranges.inward i) (to_z-of_z s.ranges.across i) s.args.pitch)

pub thread_to_spec : {M : Type 1} → statement M
thread_to_spec = tie.close (tie.spec thread_requires returns thread_requires_2 returns_2)
