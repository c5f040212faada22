use Rattle.std.proofs.Common.{rules, ◌≡◌, ◌∙◌, to_z, of_z, w32}
use Rattle.axes.specs.Goes.{rapid_to}
use Rattle.plunges.proofs.Cursors.{drawn}
use Rattle.plunges.proofs.draw_back.Goals as goal

pub returns : goal.returns
returns c =
    let k = c.args.c in
    let to : to_z w32 (of_z w32 c.deep_at-to.result) ≡ c.deep_at-to.result = search rules in
    let width : to_z w32 (of_z w32 k.width) ≡ k.width = search rules in
    drawn k c.requires.0 c.requires.1 (search rules)
    (c.rapid_to-record.ensures ∙ λ i. rapid_to k.groove.facing ((to ∙ c.deep_at-to.ensures) i) (width i)) c.at_stage-rest.ensures
