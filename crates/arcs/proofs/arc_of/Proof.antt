-- `arcs::arc_of` meets its contract.
use borrow.Author.Rules.{rules, sfits_of}
use mathlib.Core.Path.{◌≡◌, ◌∙◌}
use lib.IntN.{pos, ◌+ℤ◌, ◌*ℤ◌}
use mir.Syntax.{w32}
use mir.Val.{to_z, of_z}
use mir.Facts.{to_z-of_z}
use Rattle.arcs.specs.Arcs.{arc_of}
use Rattle.arcs.proofs.arc_of.Statement.{statement}
use Rattle.arcs.proofs.arc_of.Tie as tie

centre_x_requires : tie.Need-centre_x-x-requires
centre_x_requires c κs = search rules

centre_z_requires : tie.Need-centre_z-z-requires
centre_z_requires c κs = search rules

returns : tie.Need-returns
unfolding arc_of
returns c =
    let d = c in
    let s = d in
    let x : to_z w32 (of_z w32 d.centre_x-x.result) ≡ s.args.start.x +ℤ pos 2 *ℤ s.args.words.i = to_z-of_z {w = w32} (sfits_of {w = w32} d.centre_x-x.type_inv) ∙ (d.centre_x-x.ensures ∙ search rules) in
    let z : to_z w32 (of_z w32 c.centre_z-z.result) ≡ s.args.start.z +ℤ s.args.words.k = to_z-of_z {w = w32} (sfits_of {w = w32} c.centre_z-z.type_inv) ∙ (c.centre_z-z.ensures ∙ search rules) in
    λ i. record { clockwise = s.args.clockwise; start = s.args.start; end = s.args.end; centre = record { x = x i; z = z i } }

pub arc_of_spec : {M : Type 1} → statement M
arc_of_spec = tie.close (tie.spec centre_x_requires centre_z_requires returns)
