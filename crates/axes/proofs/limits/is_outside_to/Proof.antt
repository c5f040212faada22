-- `axes::limits::is_outside_to` meets its contract.
use borrow.Author.Rules.{rules}
use mathlib.Core.Path.{◌∙◌}
use mir.Facts.{to_z-of_z}
use Rattle.settings.specs.Limits.{outside}
use Rattle.axes.proofs.Axes.{picked}
use Rattle.axes.proofs.limits.is_outside_to.Statement.{statement}
use Rattle.axes.proofs.limits.is_outside_to.Tie as tie

is_outside_requires : tie.Need-is_outside-requires
is_outside_requires c κs = search rules

returns : tie.Need-returns-then-facing
returns c =
    let s = c in
    picked (outside s.args.l s.args.across s.args.inward) (outside s.args.l s.args.inward s.args.across) c.if-facing.true
    (c.is_outside.ensures ∙ λ i. outside s.args.l (to_z-of_z s.ranges.across i) (to_z-of_z s.ranges.inward i))

is_outside_requires_2 : tie.Need-is_outside-requires-2
is_outside_requires_2 c κs = search rules

returns_2 : tie.Need-returns
returns_2 c =
    let s = c in
    picked (outside s.args.l s.args.across s.args.inward) (outside s.args.l s.args.inward s.args.across) c.if-facing.false
    (c.is_outside-2.ensures ∙ λ i. outside s.args.l (to_z-of_z s.ranges.inward i) (to_z-of_z s.ranges.across i))

pub is_outside_to_spec : {M : Type 1} → statement M
is_outside_to_spec =
    tie.close (tie.spec is_outside_requires returns is_outside_requires_2 returns_2)
