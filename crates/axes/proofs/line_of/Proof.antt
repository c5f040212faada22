-- `axes::line_of` meets its contract.
use borrow.Author.Rules.{rules, sfits_of}
use mathlib.Core.Path.{◌≡◌, sym, ◌∙◌, subst}
use native.Mathlib.Omega.{arith}
use lib.IntN.{◌+ℤ◌}
use mir.Syntax.{w32}
use mir.Val.{SFits, to_z, of_z}
use mir.Facts.{to_z-of_z}
use Rattle.whole.specs.Signed.{along}
use Rattle.axes.specs.Axis.{side, net, allowance_line}
use Rattle.axes.proofs.Axes.{line_net, line_fits}
use Rattle.axes.proofs.line_of.Statement.{statement}
use Rattle.axes.proofs.line_of.Tie as tie

side_of_requires : tie.Need-side_of-side-requires
side_of_requires c κs = search rules

net_of_requires : tie.Need-net_of-by-requires
net_of_requires c κs = search rules

the_side : (c : tie.After-side_of-side) → c.side_of-side.result ≡ side c.args.a
the_side c = c.side_of-side.ensures ∙ search rules

-- the last call's arguments make the allowance line
the_line : (c : tie.After-net_of-by)
    → to_z w32 (of_z w32 c.args.a.start) +ℤ along c.side_of-side.result c.net_of-by.result ≡ allowance_line c.args.a
the_line c =
    let s = c in
    let f : SFits w32 s.args.a.start = search rules in
    (λ i. to_z-of_z f i +ℤ along (the_side c.before i) (c.net_of-by.ensures i)) ∙ line_net s.args.a (omega (arith, s.requires))

step_requires : tie.Need-step-requires
step_requires c κs =
    let s = c in
    let a = s.args.a in
    let f : SFits w32 a.start = search rules in
    let g : SFits w32 a.target = search rules in
    subst (SFits w32) (line_net a (omega (arith, s.requires)) ∙ sym (the_line c)) (line_fits a f g (net a) (omega arith))

returns : tie.Need-returns
returns c = to_z-of_z (sfits_of {w = w32} c.step.type_inv) ∙ c.step.ensures ∙ the_line c.before

pub line_of_spec : {M : Type 1} → statement M
line_of_spec = tie.close (tie.spec side_of_requires net_of_requires step_requires returns)
