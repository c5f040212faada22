-- `planwords::plan_of` meets its contract.
use mathlib.Core.Path.{◌∙◌}
use mir.Syntax.{w32}
use mir.Facts.{to_z-of_z}
use borrow.Author.Rules.{rules, sfits_of}
use Rattle.cells.specs.Numbers.{at}
use Rattle.planwords.specs.Plan.{plan_of}
use Rattle.planwords.proofs.plan_of.Statement.{statement}
use Rattle.planwords.proofs.plan_of.Tie as tie

returns : tie.Need-returns
unfolding plan_of
returns c =
    let stops = c in
    let coolant = stops in
    let spindle = coolant in
    let tool = spindle in
    let bottom = tool in
    let behind = bottom in
    let z = behind in
    let x = z in
    let own = x in
    let w = own.args.w.now in
    λ i.
    record {
      x = (to_z-of_z (sfits_of {w = w32} x.signed_at.type_inv) ∙ x.signed_at.ensures) i;
      z = (to_z-of_z (sfits_of {w = w32} z.signed_at-2.type_inv) ∙ z.signed_at-2.ensures) i;
      speed = at w 4;
      tool = at w 5;
      spindle = at w 6;
      coolant = at w 7;
      own = own.own_of-own.ensures i;
      x_behind = (to_z-of_z (sfits_of {w = w32} behind.signed_at-3.type_inv) ∙ behind.signed_at-3.ensures) i;
      z_behind = (to_z-of_z (sfits_of {w = w32} bottom.signed_at-4.type_inv) ∙ bottom.signed_at-4.ensures) i;
      stop = at w 21;
      has_tool = tool.flag_at.ensures i;
      has_spindle = spindle.flag_at-2.ensures i;
      has_coolant = coolant.flag_at-3.ensures i;
      stops = stops.flag_at-4.ensures i;
      g96 = c.flag_at-5.ensures i;
      deed = own.args.deed;
    }

pub plan_of_spec : {M : Type 1} → statement M
plan_of_spec =
    tie.close
    (tie.spec
    (λ c κs. search rules)
    (λ c κs. search rules)
    (λ c κs. search rules)
    (λ c. search rules)
    (λ c. search rules)
    (λ c. search rules)
    (λ c. search rules)
    (λ c κs. search rules)
    (λ c κs. search rules)
    (λ c. search rules)
    (λ c κs. search rules)
    (λ c κs. search rules)
    (λ c κs. search rules)
    (λ c κs. search rules)
    (λ c κs. search rules)
    returns)
