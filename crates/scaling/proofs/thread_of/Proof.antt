-- `scaling::thread_of` meets its contract.
use mathlib.Core.Path.{refl, sym, ap, ◌∙◌}
use mir.Syntax.{w32}
use mir.Val.{SFits}
use borrow.Author.Rules.{rules}
use Rattle.threading.specs.Bits.{is_nominal, rule_of}
use Rattle.scaling.specs.Scaled.{x_bare, z_bare}
use Rattle.scaling.proofs.Scaling.{axis_read, thread_made}
use Rattle.scaling.proofs.thread_of.Statement.{statement}
use Rattle.scaling.proofs.thread_of.Tie as tie

-- the axes fit
x : (c : tie.Start) → SFits w32 c.args.s.x × SFits w32 c.args.s.x_target
x c = (search rules, search rules)

z : (c : tie.Start) → SFits w32 c.args.s.z × SFits w32 c.args.s.z_target
z c = (search rules, search rules)

returns : tie.Need-returns-then-is_facing
returns c =
    let h = c in
    let n = h in
    let r = n in
    let e = r in
    let d7 = e in
    let d6 = d7 in
    let d3 = d6 in
    let start = d3 in
    let a = start.args in
    thread_made a.b a.s (sym c.if-is_facing.true ∙ h.is_facing.ensures) (axis_read (x_bare a.s) (x start.before.before.before.before.before.before.before.before.before.before) refl) (axis_read (z_bare a.s) (z start.before.before.before.before.before.before.before.before.before.before) refl)
    (r.rule_of-rule.ensures ∙ ap rule_of d7.d_word-d7.ensures.0) (n.is_nominal-nominal.ensures ∙ ap is_nominal d7.d_word-d7.ensures.0)
    d3.d_word-d3.ensures.0 d6.d_word-d6.ensures.0 e.empty_cuts-empty.ensures

returns_2 : tie.Need-returns
returns_2 c =
    let h = c in
    let n = h in
    let r = n in
    let e = r in
    let d7 = e in
    let d6 = d7 in
    let d3 = d6 in
    let start = d3 in
    let a = start.args in
    thread_made a.b a.s (sym c.if-is_facing.false ∙ h.is_facing.ensures) (axis_read (x_bare a.s) (x start.before.before.before.before.before.before.before.before.before.before) refl) (axis_read (z_bare a.s) (z start.before.before.before.before.before.before.before.before.before.before) refl)
    (r.rule_of-rule.ensures ∙ ap rule_of d7.d_word-d7.ensures.0) (n.is_nominal-nominal.ensures ∙ ap is_nominal d7.d_word-d7.ensures.0)
    d3.d_word-d3.ensures.0 d6.d_word-d6.ensures.0 e.empty_cuts-empty.ensures

pub thread_of_spec : {M : Type 1} → statement M
thread_of_spec =
    tie.close
    (tie.spec
    (λ c κs. search rules)
    (λ c κs. search rules)
    (λ c κs. search rules)
    (λ c κs. search rules)
    (λ c κs. search rules)
    (λ c κs. search rules)
    (λ c κs. search rules)
    returns
    returns_2)
