-- `plunges::go_out` meets its contract.
use mathlib.Core.Path.{◌∙◌}
use mir.Syntax.{w32}
use mir.Val.{SFits}
use mir.Facts.{to_z-of_z}
use borrow.Author.Rules.{rules}
use Rattle.axes.specs.Goes.{rapid_to}
use Rattle.plunges.proofs.Cursors.{goes_across, goes_over}
use Rattle.plunges.proofs.go_out.Statement.{statement}
use Rattle.plunges.proofs.go_out.Tie as tie

-- asked at the function's entry, where `search` still reaches them
start_held : (s : tie.Start) → SFits w32 s.args.c.groove.depth.start
start_held s = search rules

width_held : (s : tie.Start) → SFits w32 s.args.c.width
width_held s = search rules

returns : tie.Need-returns-then-c
returns c =
    let i = c in
    let r = i in
    let s = r in
    let k = s.args.c in
    goes_across k s.requires.0 s.requires.1 (r.rapid_to-record.ensures ∙ λ i. rapid_to k.groove.facing (to_z-of_z (start_held s.before.before.before.before.before.before.before) i) (to_z-of_z (width_held s.before.before.before.before.before.before.before) i))
    i.if-c.true c.at_stage-rest.ensures

returns_2 : tie.Need-returns
returns_2 c =
    let i = c in
    let r = i in
    let s = r in
    let k = s.args.c in
    goes_over k s.requires.0 s.requires.1 (r.rapid_to-record.ensures ∙ λ i. rapid_to k.groove.facing (to_z-of_z (start_held s.before.before.before.before.before.before.before) i) (to_z-of_z (width_held s.before.before.before.before.before.before.before) i))
    i.if-c.false c.at_stage-rest-2.ensures

pub go_out_spec : {M : Type 1} → statement M
go_out_spec = tie.close (tie.spec (λ c κs. search rules) (λ c κs. search rules) returns (λ c κs. search rules) returns_2)
