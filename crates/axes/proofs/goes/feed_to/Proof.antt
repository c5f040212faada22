-- `axes::goes::feed_to` meets its contract.
use mathlib.Core.Path.{◌∙◌}
use mir.Facts.{to_z-of_z}
use borrow.Author.Rules.{rules}
use Rattle.moves.specs.Kinds.{feed}
use Rattle.axes.specs.Goes.{feed_to}
use Rattle.axes.proofs.Axes.{picked}
use Rattle.axes.proofs.goes.feed_to.Statement.{statement}
use Rattle.axes.proofs.goes.feed_to.Tie as tie

feed_requires : tie.Need-feed-requires
feed_requires c κs = search rules

returns : tie.Need-returns-then-facing
unfolding feed_to
returns c =
    let s = c in
    picked (feed s.args.across s.args.inward s.args.f s.args.g95) (feed s.args.inward s.args.across s.args.f s.args.g95) c.if-facing.true
    (c.feed.ensures ∙ λ i. feed (to_z-of_z s.ranges.across i) (to_z-of_z s.ranges.inward i) s.args.f s.args.g95)

feed_requires_2 : tie.Need-feed-requires-2
feed_requires_2 c κs = search rules

returns_2 : tie.Need-returns
unfolding feed_to
returns_2 c =
    let s = c in
    picked (feed s.args.across s.args.inward s.args.f s.args.g95) (feed s.args.inward s.args.across s.args.f s.args.g95) c.if-facing.false
    (c.feed-2.ensures ∙ λ i. feed (to_z-of_z s.ranges.inward i) (to_z-of_z s.ranges.across i) s.args.f s.args.g95)

pub feed_to_spec : {M : Type 1} → statement M
feed_to_spec = tie.close (tie.spec feed_requires returns feed_requires_2 returns_2)
