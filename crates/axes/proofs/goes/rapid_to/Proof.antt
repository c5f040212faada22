-- `axes::goes::rapid_to` meets its contract.
use mathlib.Core.Path.{◌∙◌}
use mir.Facts.{to_z-of_z}
use borrow.Author.Rules.{rules}
use Rattle.moves.specs.Kinds.{rapid}
use Rattle.axes.specs.Goes.{rapid_to}
use Rattle.axes.proofs.Axes.{picked}
use Rattle.axes.proofs.goes.rapid_to.Statement.{statement}
use Rattle.axes.proofs.goes.rapid_to.Tie as tie

rapid_requires : tie.Need-rapid-requires
rapid_requires c κs = search rules

returns : tie.Need-returns-then-facing
unfolding rapid_to
returns c =
    let s = c in
    picked (rapid s.args.across s.args.inward) (rapid s.args.inward s.args.across) c.if-facing.true
    (c.rapid.ensures ∙ λ i. rapid (to_z-of_z s.ranges.across i) (to_z-of_z s.ranges.inward i))

rapid_requires_2 : tie.Need-rapid-requires-2
rapid_requires_2 c κs = search rules

returns_2 : tie.Need-returns
unfolding rapid_to
returns_2 c =
    let s = c in
    picked (rapid s.args.across s.args.inward) (rapid s.args.inward s.args.across) c.if-facing.false
    (c.rapid-2.ensures ∙ λ i. rapid (to_z-of_z s.ranges.inward i) (to_z-of_z s.ranges.across i))

pub rapid_to_spec : {M : Type 1} → statement M
rapid_to_spec = tie.close (tie.spec rapid_requires returns rapid_requires_2 returns_2)
