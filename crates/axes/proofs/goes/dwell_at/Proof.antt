-- `axes::goes::dwell_at` meets its contract.
use mathlib.Core.Path.{◌∙◌}
use mir.Facts.{to_z-of_z}
use borrow.Author.Rules.{rules}
use Rattle.moves.specs.Kinds.{dwell}
use Rattle.axes.specs.Goes.{dwell_at}
use Rattle.axes.proofs.Axes.{picked}
use Rattle.axes.proofs.goes.dwell_at.Statement.{statement}
use Rattle.axes.proofs.goes.dwell_at.Tie as tie

dwell_requires : tie.Need-dwell-requires
dwell_requires c κs = search rules

returns : tie.Need-returns-then-facing
unfolding dwell_at
returns c =
    let s = c in
    picked (dwell s.args.across s.args.inward s.args.tenths) (dwell s.args.inward s.args.across s.args.tenths) c.if-facing.true
    (c.dwell.ensures ∙ λ i. dwell (to_z-of_z s.ranges.across i) (to_z-of_z s.ranges.inward i) s.args.tenths)

dwell_requires_2 : tie.Need-dwell-requires-2
dwell_requires_2 c κs = search rules

returns_2 : tie.Need-returns
unfolding dwell_at
returns_2 c =
    let s = c in
    picked (dwell s.args.across s.args.inward s.args.tenths) (dwell s.args.inward s.args.across s.args.tenths) c.if-facing.false
    (c.dwell-2.ensures ∙ λ i. dwell (to_z-of_z s.ranges.inward i) (to_z-of_z s.ranges.across i) s.args.tenths)

pub dwell_at_spec : {M : Type 1} → statement M
dwell_at_spec = tie.close (tie.spec dwell_requires returns dwell_requires_2 returns_2)
