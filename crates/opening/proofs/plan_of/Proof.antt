-- `opening::plan_of` meets its contract.
use mathlib.Core.Path.{refl, ap, ◌∙◌}
use mir.Syntax.{w32}
use mir.Val.{SFits}
use mir.Facts.{to_z-of_z}
use borrow.Author.Rules.{rules}
use Rattle.state.specs.declared.State.{State}
use Rattle.opening.proofs.plan_of.Statement.{statement}
use Rattle.opening.proofs.plan_of.Tie as tie

-- where the axes stand fits, before the deed and behind it
fits : (s : tie.Start) → SFits w32 s.args.s.x × SFits w32 s.args.s.z
fits s = (search rules, search rules)

fits_behind : (m : tie.After-done_of-behind) → SFits w32 m.done_of-behind.result.x × SFits w32 m.done_of-behind.result.z
fits_behind m = (search rules, search rules)

returns : tie.Need-returns
returns c =
    let codes = c in
    let o = codes in
    let made = o in
    let after = made.done_of-behind in
    let at = fits made.before.before.before.before.before.before.before.before.before.before.before.before.before.before in
    let behind = fits_behind made.before.before.before.before.before.before.before.before.before.before.before.before.before in
    record {
      x = to_z-of_z at.0;
      z = to_z-of_z at.1;
      g96 = refl;
      speed = codes.code_in.ensures;
      tool = codes.code_in-2.ensures;
      spindle = codes.code_in-3.ensures;
      coolant = codes.code_in-4.ensures;
      stop = codes.code_in-5.ensures;
      x_behind = to_z-of_z behind.0 ∙ ap (λ (t : State). t.x) after.ensures;
      z_behind = to_z-of_z behind.1 ∙ ap (λ (t : State). t.z) after.ensures;
      has_tool = c.has.ensures;
      has_spindle = c.has-2.ensures;
      has_coolant = c.has-3.ensures;
      stops = o.stops-stops.ensures;
      own = o.own_of-own.ensures;
      deed = o.open_deed-deed.ensures;
    }

pub plan_of_spec : {M : Type 1} → statement M
plan_of_spec =
    tie.close
    (tie.spec
    (λ c κs. search rules)
    (λ c κs. search rules)
    (λ c κs. search rules)
    (λ c κs. search rules)
    (λ c κs. search rules)
    (λ c κs. search rules)
    (λ c κs. search rules)
    (λ c κs. search rules)
    (λ c κs. search rules)
    (λ c κs. search rules)
    (λ c κs. search rules)
    (λ c κs. search rules)
    returns)
