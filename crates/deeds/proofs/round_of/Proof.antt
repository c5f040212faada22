-- `deeds::round_of` meets its contract.
use mathlib.Core.Path.{◌≡◌, ◌∙◌}
use mathlib.Core.Bool.{true}
use lib.IntN.{ℤ}
use mir.Syntax.{w32}
use mir.Val.{SFits, to_z, of_z}
use mir.Facts.{to_z-of_z}
use borrow.Author.Rules.{rules}
use Rattle.whole.specs.Position.{in_table}
use Rattle.whole.proofs.Integers.{whole}
use Rattle.whole.proofs.Positions.{in_range}
use Rattle.arcs.specs.Arcs.{arc_of}
use Rattle.deeds.specs.Deed.{round_of}
use Rattle.deeds.proofs.round_of.Statement.{statement}
use Rattle.deeds.proofs.round_of.Tie as tie

-- the places fit: asked at the function's entry, where `search` still reaches them
x_target : (c : tie.Start) → SFits w32 c.args.s.x_target
x_target c = search rules

z_target : (c : tie.Start) → SFits w32 c.args.s.z_target
z_target c = search rules

-- a number in the table's range fits
fits : {w : ℤ} → in_table w ≡ true → SFits w32 w
fits {w} h = let k = in_range w h in omega (whole, k.low, k.high)

-- and is read back as it is
back : {w : ℤ} → in_table w ≡ true → to_z w32 (of_z w32 w) ≡ w
back h = to_z-of_z (fits h)

element_copy_out_t10 : tie.Need-bounds-b-4
element_copy_out_t10 c = search rules

element_copy_out_t13 : tie.Need-bounds-b-5
element_copy_out_t13 c = search rules

arc_of_requires : tie.Need-arc_of-requires
arc_of_requires c κs = search rules

returns : tie.Need-returns
unfolding round_of
returns c =
    let s = c in
    let a = s.args in
    let p = s.requires in
    let arc =
    c.arc_of.ensures
    ∙ (λ i.
    arc_of a.clockwise (record { x = back p.x i; z = back p.z i }) (record { x = to_z-of_z (x_target s.before.before.before.before.before) i; z = to_z-of_z (z_target s.before.before.before.before.before) i })
    (record { i = back p.i i; k = back p.k i })) in
    λ i. record { arc = arc i; f = a.s.f; g95 = a.s.g95 }

pub round_of_spec : {M : Type 1} → statement M
round_of_spec = tie.close (tie.spec element_copy_out_t10 element_copy_out_t13 arc_of_requires returns)
