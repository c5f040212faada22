-- `plunges::dwell` meets its contract.
use mathlib.Core.Path.{refl, ◌∙◌}
use mir.Syntax.{w32}
use mir.Val.{SFits}
use mir.Facts.{to_z-of_z}
use borrow.Author.Rules.{rules}
use Rattle.axes.specs.Goes.{dwell_at}
use Rattle.plunges.specs.declared.Stage.TheVariants.{Out}
use Rattle.plunges.specs.Cursor.{rest_at}
use Rattle.plunges.proofs.Cursors.{within}
use Rattle.plunges.proofs.dwell.Statement.{statement}
use Rattle.plunges.proofs.dwell.Tie as tie

-- asked at the function's entry, where `search` still reaches them
inward_held : (s : tie.Start) → SFits w32 s.args.c.groove.depth.target
inward_held s = search rules

across_held : (s : tie.Start) → SFits w32 s.args.c.width
across_held s = search rules

returns : tie.Need-returns
unfolding rest_at
returns c =
    let s = c in
    let k = s.args.c in
    within k s.requires.0 s.requires.1 Out tt refl
    (c.dwell_at-record.ensures ∙ λ i. dwell_at k.groove.facing k.groove.dwell (to_z-of_z (inward_held s.before.before.before.before.before.before) i) (to_z-of_z (across_held s.before.before.before.before.before.before) i))
    c.at_stage-rest.ensures

pub dwell_spec : {M : Type 1} → statement M
dwell_spec = tie.close (tie.spec (λ c κs. search rules) (λ c κs. search rules) returns)
