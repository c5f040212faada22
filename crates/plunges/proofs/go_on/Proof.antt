-- `plunges::go_on` meets its contract.
use mathlib.Core.Path.{refl, sym, ap, subst, ◌∙◌}
use lib.IntN.{ℤ, ◌+ℤ◌}
use mir.Syntax.{w32}
use mir.Val.{SFits, to_z, of_z}
use mir.Facts.{to_z-of_z}
use borrow.Author.Rules.{rules, sfits_of}
use Rattle.whole.specs.declared.Side.TheVariants.{Minus}
use Rattle.whole.specs.Signed.{along}
use Rattle.axes.specs.Goes.{rapid_to}
use Rattle.plunges.proofs.Cursors.{width_next_fits, goes_on}
use Rattle.plunges.proofs.go_on.Statement.{statement}
use Rattle.plunges.proofs.go_on.Tie as tie

-- asked at the function's entry, where `search` still reaches them
start_held : (s : tie.Start) → SFits w32 s.args.c.groove.depth.start
start_held s = search rules

width_held : (s : tie.Start) → SFits w32 s.args.c.width
width_held s = search rules

step_requires : tie.Need-step-width-requires
step_requires c κs =
    let h = c in
    let s = h in
    let f = width_held s.before.before.before.before.before.before in
    subst (SFits w32) (ap (λ (w : ℤ). w +ℤ along Minus h.hand_out-handed.result.piece) (sym (to_z-of_z f)))
    (width_next_fits s.args.c s.requires.0 h.hand_out-handed.result.rest h.hand_out-handed.ensures f)

returns : tie.Need-returns
returns c =
    let r = c in
    let t = r in
    let h = t in
    let s = h in
    let k = s.args.c in
    let wide = to_z-of_z (sfits_of {w = w32} t.step-width.type_inv) ∙ t.step-width.ensures ∙ ap (λ (w : ℤ). w +ℤ along Minus h.hand_out-handed.result.piece) (to_z-of_z (width_held s.before.before.before.before.before.before.before.before.before.before)) in
    goes_on k s.requires.0 h.hand_out-handed.result.rest h.hand_out-handed.ensures s.requires.1 wide
    (r.rapid_to-record.ensures ∙ ap (λ (d : ℤ). rapid_to k.groove.facing d (to_z w32 (of_z w32 t.step-width.result))) (to_z-of_z (start_held s.before.before.before.before.before.before.before.before.before.before)))
    refl

pub go_on_spec : {M : Type 1} → statement M
go_on_spec = tie.close (tie.spec (λ c κs. search rules) step_requires (λ c κs. search rules) returns)
