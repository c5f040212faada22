-- `plunges::go_home` meets its contract.
use mathlib.Core.Path.{◌∙◌}
use mir.Syntax.{w32}
use mir.Val.{SFits}
use mir.Facts.{to_z-of_z}
use borrow.Author.Rules.{rules}
use Rattle.axes.specs.Goes.{rapid_to}
use Rattle.plunges.proofs.Cursors.{goes_home}
use Rattle.plunges.proofs.go_home.Statement.{statement}
use Rattle.plunges.proofs.go_home.Tie as tie

-- asked at the function's entry, where `search` still reaches them
deep_held : (s : tie.Start) → SFits w32 s.args.c.groove.depth.start
deep_held s = search rules

wide_held : (s : tie.Start) → SFits w32 s.args.c.groove.width.start
wide_held s = search rules

returns : tie.Need-returns
returns c =
    let r = c in
    let s = r in
    let k = s.args.c in
    goes_home k s.requires.0 s.requires.1 s.requires.2 (r.rapid_to-record.ensures ∙ λ i. rapid_to k.groove.facing (to_z-of_z (deep_held s.before.before.before.before.before.before.before) i) (to_z-of_z (wide_held s.before.before.before.before.before.before.before) i))
    c.at_stage-rest.ensures

pub go_home_spec : {M : Type 1} → statement M
go_home_spec = tie.close (tie.spec (λ c κs. search rules) (λ c κs. search rules) returns)
