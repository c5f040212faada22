-- `asking::of_straight` meets its contract.
use mathlib.Core.Path.{◌∙◌}
use mathlib.Core.Bool.{false, not}
use mir.Syntax.{w32}
use mir.Val.{SFits}
use mir.Facts.{to_z-of_z}
use borrow.Author.Rules.{rules}
use Rattle.settings.specs.Limits.{outside}
use Rattle.asking.proofs.of_straight.Statement.{statement}
use Rattle.asking.proofs.of_straight.Tie as tie

returns : tie.Need-returns
returns c =
    let a = c in
    let f : SFits w32 a.args.m.goes.x = search rules in
    let g : SFits w32 a.args.m.goes.z = search rules in
    let is = c.is_outside-outside.ensures ∙ (λ i. outside a.args.l (to_z-of_z f i) (to_z-of_z g i)) in
    λ i. record { nowhere = false; waits = not a.args.m.rapid; least = a.args.m.least; wrong = false; outside = is i; count = 1 }

pub of_straight_spec : {M : Type 1} → statement M
of_straight_spec = tie.close (tie.spec (λ c κs. search rules) returns)
