-- `bores::deep_at` meets its contract.
use mathlib.Core.Path.{◌≡◌, sym, ◌∙◌, subst}
use lib.IntN.{◌+ℤ◌, ◌-ℤ◌}
use mir.Syntax.{w32}
use mir.Val.{SFits, to_z, of_z}
use mir.Facts.{to_z-of_z}
use Rattle.whole.specs.Signed.{side_of, along}
use Rattle.whole.proofs.Sides.{toward}
use Rattle.drilling.specs.Drilling.{deep_at}
use borrow.Author.Rules.{rules, sfits_of}
use Rattle.bores.proofs.deep_at.Statement.{statement}
use Rattle.bores.proofs.deep_at.Tie as tie

side_of_requires : tie.Need-side_of-side-requires
side_of_requires c κs = search rules

-- the step goes to the place at that depth
the_place : (c : tie.After-side_of-side)
    → to_z w32 (of_z w32 c.args.b.start) +ℤ along c.side_of-side.result c.args.t
    ≡ deep_at c.args.b c.args.t
the_place c =
    let s = c in
    let f : SFits w32 s.args.b.start = search rules in
    let e : c.side_of-side.result ≡ side_of (s.args.b.target -ℤ s.args.b.start) = c.side_of-side.ensures ∙ search rules in
    (λ i. to_z-of_z f i +ℤ along (e i) s.args.t)

step_requires : tie.Need-step-requires
step_requires c κs =
    let s = c in
    let f : SFits w32 s.args.b.start = search rules in
    let g : SFits w32 s.args.b.target = search rules in
    subst (SFits w32) (sym (the_place c)) (toward f g s.args.t s.requires)

returns : tie.Need-returns
returns c = to_z-of_z (sfits_of {w = w32} c.step.type_inv) ∙ c.step.ensures ∙ the_place c.before

pub deep_at_spec : {M : Type 1} → statement M
deep_at_spec = tie.close (tie.spec side_of_requires step_requires returns)
