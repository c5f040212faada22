-- `passes::go_back` meets its contract.
use mathlib.Core.Path.{refl, ◌∙◌}
use mir.Syntax.{w32}
use mir.Val.{SFits}
use mir.Facts.{to_z-of_z}
use borrow.Author.Rules.{rules}
use Rattle.axes.specs.Goes.{rapid_to}
use Rattle.axes.specs.declared.Stage.TheVariants.{In}
use Rattle.passes.specs.Cursor.{rest_at}
use Rattle.passes.proofs.Cursors.{within}
use Rattle.passes.proofs.go_back.Statement.{statement}
use Rattle.passes.proofs.go_back.Tie as tie

-- asked at the function's entry, where `search` still reaches them
inward_held : (s : tie.Start) → SFits w32 s.args.c.pass.from
inward_held s = search rules

across_held : (s : tie.Start) → SFits w32 s.args.c.pass.home
across_held s = search rules

returns : tie.Need-returns
unfolding rest_at
returns c =
    let s = c in
    let p = s.args.c.pass in
    within s.args.c s.requires.0 s.requires.1 In refl
    (c.rapid_to-record.ensures ∙ λ i. rapid_to p.facing (to_z-of_z (inward_held s.before.before.before.before.before) i) (to_z-of_z (across_held s.before.before.before.before.before) i))
    c.at_stage-rest.ensures

pub go_back_spec : {M : Type 1} → statement M
go_back_spec = tie.close (tie.spec (λ c κs. search rules) (λ c κs. search rules) returns)
