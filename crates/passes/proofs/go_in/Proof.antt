-- `passes::go_in` meets its contract.
use mathlib.Core.Path.{refl, sym, ap, subst, ◌∙◌}
use lib.IntN.{ℤ, ◌+ℤ◌}
use mir.Syntax.{w32}
use mir.Val.{SFits}
use mir.Facts.{to_z-of_z}
use borrow.Author.Rules.{rules, sfits_of}
use Rattle.whole.specs.Signed.{along}
use Rattle.axes.specs.Goes.{rapid_to}
use Rattle.passes.proofs.Cursors.{line_next_fits, goes_in}
use Rattle.passes.proofs.go_in.Statement.{statement}
use Rattle.passes.proofs.go_in.Tie as tie

-- asked at the function's entry, where `search` still reaches them
line_held : (s : tie.Start) → SFits w32 s.args.c.line
line_held s = search rules

home_held : (s : tie.Start) → SFits w32 s.args.c.pass.home
home_held s = search rules

step_requires : tie.Need-step-line-requires
step_requires c κs =
    let h = c in
    let s = h in
    let f = line_held s.before.before.before.before in
    subst (SFits w32) (ap (λ (l : ℤ). l +ℤ along s.args.c.side h.hand_out-handed.result.piece) (sym (to_z-of_z f)))
    (line_next_fits s.args.c s.requires.0 h.hand_out-handed.result.rest h.hand_out-handed.ensures f)

returns : tie.Need-returns
returns c =
    let r = c in
    let t = r in
    let h = t in
    let s = h in
    let k = s.args.c in
    let line = to_z-of_z (sfits_of {w = w32} t.step-line.type_inv) ∙ t.step-line.ensures ∙ ap (λ (l : ℤ). l +ℤ along k.side h.hand_out-handed.result.piece) (to_z-of_z (line_held s.before.before.before.before.before.before.before.before)) in
    goes_in k s.requires.0 h.hand_out-handed.result.rest h.hand_out-handed.ensures s.requires.1 line
    (r.rapid_to-record.ensures ∙ ap (rapid_to k.pass.facing _) (to_z-of_z (home_held s.before.before.before.before.before.before.before.before)))
    refl

pub go_in_spec : {M : Type 1} → statement M
go_in_spec = tie.close (tie.spec (λ c κs. search rules) step_requires (λ c κs. search rules) returns)
