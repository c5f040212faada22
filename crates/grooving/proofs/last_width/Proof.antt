-- `grooving::last_width` meets its contract.
use borrow.Author.Rules.{rules, sfits_of}
use mathlib.Core.Path.{◌≡◌, sym, ◌∙◌, subst}
use Prim.Native.Nat.{◌-◌}
use native.Mathlib.Omega.{arith}
use lib.IntN.{◌+ℤ◌}
use mir.Syntax.{w32}
use mir.Val.{SFits, to_z, of_z}
use mir.Facts.{to_z-of_z}
use Rattle.whole.specs.declared.Side.TheVariants.{Minus}
use Rattle.whole.specs.Signed.{along}
use Rattle.grooving.specs.Grooving.{rest, last_width}
use Rattle.grooving.proofs.Asked.{asked, width_fits}
use Rattle.grooving.proofs.last_width.Statement.{statement}
use Rattle.grooving.proofs.last_width.Tie as tie

length_of_requires : tie.Need-length_of-requires
length_of_requires c κs = search rules

sub_rest : tie.Need-overflow_sub-rest
sub_rest c =
    let s = c in
    omega (arith, (asked s.args.g s.requires).wide, c.length_of.ensures)

-- the last call's arguments make the last place
the_place : (c : tie.After-struct_known-1)
    → to_z w32 (of_z w32 c.args.g.width.start) +ℤ along Minus (c.length_of.result - c.args.g.tool) ≡ last_width c.args.g
the_place c =
    let g = c.args.g in
    let f : SFits w32 g.width.start = search rules in
    λ i. to_z-of_z f i +ℤ along Minus (c.length_of.ensures i - g.tool)

step_requires : tie.Need-step-requires
step_requires c κs =
    let s = c in
    let g = s.args.g in
    let f : SFits w32 g.width.start = search rules in
    let t : SFits w32 g.width.target = search rules in
    subst (SFits w32) (sym (the_place c)) (width_fits g s.requires f t (rest g) (omega arith))

returns : tie.Need-returns
returns c = to_z-of_z (sfits_of {w = w32} c.step.type_inv) ∙ c.step.ensures ∙ the_place c.before

pub last_width_spec : {M : Type 1} → statement M
last_width_spec = tie.close (tie.spec length_of_requires sub_rest step_requires returns)
