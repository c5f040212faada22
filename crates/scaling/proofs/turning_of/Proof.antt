-- `scaling::turning_of` meets its contract.
use mathlib.Core.Path.{sym, ◌∙◌}
use native.Mathlib.Omega.{arith}
use mir.Syntax.{w32}
use mir.Val.{SFits}
use Rattle.scaling.specs.Scaled.{x_axis, z_axis}
use Rattle.scaling.proofs.Scaling.{axis_read, cycle_made}
use borrow.Author.Rules.{rules}
use Rattle.scaling.proofs.turning_of.Statement.{statement}
use Rattle.scaling.proofs.turning_of.Tie as tie

-- the axes fit
x : (c : tie.Start) → SFits w32 c.args.s.x × SFits w32 c.args.s.x_target
x c = (search rules, search rules)

z : (c : tie.Start) → SFits w32 c.args.s.z × SFits w32 c.args.s.z_target
z c = (search rules, search rules)

returns : tie.Need-returns-then-is_facing
returns c =
    let h = c in
    let d2 = h in
    let d0 = d2 in
    let a = d0.args in
    cycle_made a.b a.s (sym c.if-is_facing.true ∙ h.is_facing.ensures) (axis_read (x_axis a.b a.s) (x d0.before.before.before.before.before.before.before) (omega (arith, d0.d_word.ensures.0)))
    (axis_read (z_axis a.b a.s) (z d0.before.before.before.before.before.before.before) d2.d_word-2.ensures.0) h.d_word-d3.ensures.0

returns_2 : tie.Need-returns
returns_2 c =
    let h = c in
    let d2 = h in
    let d0 = d2 in
    let a = d0.args in
    cycle_made a.b a.s (sym c.if-is_facing.false ∙ h.is_facing.ensures) (axis_read (x_axis a.b a.s) (x d0.before.before.before.before.before.before.before) (omega (arith, d0.d_word.ensures.0)))
    (axis_read (z_axis a.b a.s) (z d0.before.before.before.before.before.before.before) d2.d_word-2.ensures.0) h.d_word-d3.ensures.0

pub turning_of_spec : {M : Type 1} → statement M
turning_of_spec =
    tie.close
    (tie.spec
    (λ c κs. search rules)
    (λ c. search rules)
    (λ c κs. search rules)
    (λ c κs. search rules)
    (λ c κs. search rules)
    returns
    (λ c. search rules)
    returns_2)
