-- `grooving::is_wrong` meets its contract.
use borrow.Author.Rules.{rules}
use mathlib.Core.Bool.{◌&&◌, ◌||◌}
use lib.Dec.{leb, ltb, eqb}
use lib.Signed.{le_z}
use mir.Syntax.{w32}
use mir.Val.{SFits}
use mir.Facts.{to_z-of_z}
use Rattle.grooving.specs.Grooving.{wrong}
use Rattle.grooving.proofs.is_wrong.Statement.{statement}
use Rattle.grooving.proofs.is_wrong.Tie as tie

length_of_requires : tie.Need-length_of-deep-requires
length_of_requires c κs = search rules

length_of_requires_2 : tie.Need-length_of-wide-requires
length_of_requires_2 c κs = search rules

returns : tie.Need-returns
unfolding wrong
returns c =
    let wide = c in
    let deep = wide in
    let g = deep.args.g in
    let f : SFits w32 g.width.start = search rules in
    let t : SFits w32 g.width.target = search rules in
    λ i. (le_z (to_z-of_z f i) (to_z-of_z t i) || eqb (deep.length_of-deep.ensures i) 0) || (ltb (wide.length_of-wide.ensures i) g.tool || (ltb g.tool (wide.length_of-wide.ensures i) && leb g.tool g.overlap))

pub is_wrong_spec : {M : Type 1} → statement M
is_wrong_spec = tie.close (tie.spec length_of_requires length_of_requires_2 returns)
