-- `listing::lines::put_record` meets its contract.
use mathlib.Core.Path.{◌≡◌, ap}
use mathlib.Core.List.{[], ◌∷◌, ◌++◌}
use native.Mathlib.Omega.{arith}
use lib.IntN.{ℤ}
use mir.Syntax.{w32}
use mir.Val.{to_z, of_z}
use borrow.Author.Rules.{rules}
use Rattle.moves.specs.Form.{Fitting, FittingOrigin, listed}
use Rattle.letters.specs.Letters.{space}
use Rattle.decimal.specs.Decimal.{signed}
use Rattle.decimal.proofs.Writing.{wrote_as}
use Rattle.listing.proofs.Made.{kind_room, flags_room, x_room, z_room, value_room, program_room, block_room, line_made}
use Rattle.listing.proofs.lines.put_record.Statement.{statement}
use Rattle.listing.proofs.lines.put_record.Tie as tie

-- the numbers of a record fit their types, and X and Z are as the machine reads them back from their bits
fitting : (c : tie.Start) → Fitting c.args.what
fitting c = record { kind = search rules; flags = search rules; x = search rules; z = search rules; value = search rules }

origin_fits : (c : tie.Start) → FittingOrigin c.args.origin
origin_fits c = record { program = search rules; block = search rules }

same_x : (c : tie.After-struct_told-1) → let x = c.args.what.x in to_z w32 (of_z w32 x) ≡ x
same_x c = search rules

same_z_lem : (c : tie.After-struct_told-2-1) → let z = c.args.what.z in to_z w32 (of_z w32 z) ≡ z
same_z_lem c = search rules

-- the room and the bytes of a signed number
as_read : {a b : ℤ} → a ≡ b → signed a ++ (space ∷ []) ≡ signed b ++ (space ∷ [])
as_read e = ap (λ (v : ℤ). signed v ++ (space ∷ [])) e

put_number_requires : tie.Need-put_number-flags-requires
put_number_requires c κs = let s = c in kind_room s.args.out.now s.args.at (listed s.args.origin s.args.what) (fitting s.before.before.before) (origin_fits s.before.before.before) s.requires

put_number_requires_2 : tie.Need-put_number-x-requires
put_number_requires_2 c κs =
    let p1 = c in
    let s = p1 in
    flags_room s.args.out.now s.args.at (listed s.args.origin s.args.what) (fitting s.before.before.before.before.before.before.before.before) (origin_fits s.before.before.before.before.before.before.before.before) s.requires p1.put_number-flags.ensures

put_signed_requires : tie.Need-put_signed-z-requires
put_signed_requires c κs =
    let p2 = c in
    let p1 = p2 in
    let s = p1 in
    rw (same_x c) (x_room s.args.out.now s.args.at (listed s.args.origin s.args.what) (fitting s.before.before.before.before.before.before.before.before.before.before.before.before.before) (origin_fits s.before.before.before.before.before.before.before.before.before.before.before.before.before) s.requires p1.put_number-flags.ensures p2.put_number-x.ensures)

put_signed_requires_2 : tie.Need-put_signed-value-requires
put_signed_requires_2 c κs =
    let p3 = c in
    let p2 = p3 in
    let p1 = p2 in
    let s = p1 in
    rw (same_z_lem c) (z_room s.args.out.now s.args.at (listed s.args.origin s.args.what) (fitting s.before.before.before.before.before.before.before.before.before.before.before.before.before.before.before.before.before.before) (origin_fits s.before.before.before.before.before.before.before.before.before.before.before.before.before.before.before.before.before.before) s.requires p1.put_number-flags.ensures p2.put_number-x.ensures (wrote_as (as_read (same_x p3.before.before.before.before.before)) p3.put_signed-z.ensures))

put_number_requires_3 : tie.Need-put_number-program-requires
put_number_requires_3 c κs =
    let p4 = c in
    let p3 = p4 in
    let p2 = p3 in
    let p1 = p2 in
    let s = p1 in
    value_room s.args.out.now s.args.at (listed s.args.origin s.args.what) (fitting s.before.before.before.before.before.before.before.before.before.before.before.before.before.before.before.before.before.before.before.before.before.before.before) (origin_fits s.before.before.before.before.before.before.before.before.before.before.before.before.before.before.before.before.before.before.before.before.before.before.before) s.requires p1.put_number-flags.ensures p2.put_number-x.ensures (wrote_as (as_read (same_x p3.before.before.before.before.before.before.before.before.before.before)) p3.put_signed-z.ensures)
    (wrote_as (as_read (same_z_lem p4.before.before.before.before.before)) p4.put_signed-value.ensures)

put_number_requires_4 : tie.Need-put_number-block-requires
put_number_requires_4 c κs =
    let p5 = c in
    let p4 = p5 in
    let p3 = p4 in
    let p2 = p3 in
    let p1 = p2 in
    let s = p1 in
    program_room s.args.out.now s.args.at (listed s.args.origin s.args.what) (fitting s.before.before.before.before.before.before.before.before.before.before.before.before.before.before.before.before.before.before.before.before.before.before.before.before.before.before.before.before) (origin_fits s.before.before.before.before.before.before.before.before.before.before.before.before.before.before.before.before.before.before.before.before.before.before.before.before.before.before.before.before) s.requires p1.put_number-flags.ensures p2.put_number-x.ensures
    (wrote_as (as_read (same_x p3.before.before.before.before.before.before.before.before.before.before.before.before.before.before.before)) p3.put_signed-z.ensures) (wrote_as (as_read (same_z_lem p4.before.before.before.before.before.before.before.before.before.before)) p4.put_signed-value.ensures) p5.put_number-program.ensures

put_number_requires_5 : tie.Need-put_number-requires
put_number_requires_5 c κs =
    let p6 = c in
    let p5 = p6 in
    let p4 = p5 in
    let p3 = p4 in
    let p2 = p3 in
    let p1 = p2 in
    let s = p1 in
    block_room s.args.out.now s.args.at (listed s.args.origin s.args.what) (fitting s.before.before.before.before.before.before.before.before.before.before.before.before.before.before.before.before.before.before.before.before.before.before.before.before.before.before.before.before.before.before.before.before.before) (origin_fits s.before.before.before.before.before.before.before.before.before.before.before.before.before.before.before.before.before.before.before.before.before.before.before.before.before.before.before.before.before.before.before.before.before) s.requires p1.put_number-flags.ensures p2.put_number-x.ensures
    (wrote_as (as_read (same_x p3.before.before.before.before.before.before.before.before.before.before.before.before.before.before.before.before.before.before.before.before)) p3.put_signed-z.ensures) (wrote_as (as_read (same_z_lem p4.before.before.before.before.before.before.before.before.before.before.before.before.before.before.before)) p4.put_signed-value.ensures) p5.put_number-program.ensures p6.put_number-block.ensures

same_length : tie.Need-shape_of-out
same_length c =
    let p7 = c in
    let p6 = p7 in
    let p5 = p6 in
    let p4 = p5 in
    let p3 = p4 in
    let p2 = p3 in
    let p1 = p2 in
    omega (arith, p1.put_number-flags.auto, p2.put_number-x.auto, p3.put_signed-z.auto, p4.put_signed-value.auto, p5.put_number-program.auto, p6.put_number-block.auto, p7.put_number.auto)

returns : tie.Need-returns
returns c =
    let p7 = c in
    let p6 = p7 in
    let p5 = p6 in
    let p4 = p5 in
    let p3 = p4 in
    let p2 = p3 in
    let p1 = p2 in
    let s = p1 in
    line_made s.args.out.now s.args.at (listed s.args.origin s.args.what) (fitting s.before.before.before.before.before.before.before.before.before.before.before.before.before.before.before.before.before.before.before.before.before.before.before.before.before.before.before.before.before.before.before.before.before.before.before.before) (origin_fits s.before.before.before.before.before.before.before.before.before.before.before.before.before.before.before.before.before.before.before.before.before.before.before.before.before.before.before.before.before.before.before.before.before.before.before.before) s.requires p1.put_number-flags.ensures p2.put_number-x.ensures
    (wrote_as (as_read (same_x p3.before.before.before.before.before.before.before.before.before.before.before.before.before.before.before.before.before.before.before.before.before.before.before)) p3.put_signed-z.ensures) (wrote_as (as_read (same_z_lem p4.before.before.before.before.before.before.before.before.before.before.before.before.before.before.before.before.before.before)) p4.put_signed-value.ensures) p5.put_number-program.ensures p6.put_number-block.ensures
    p7.put_number.ensures

pub put_record_spec : {M : Type 1} → statement M
put_record_spec =
    tie.close
    (tie.spec
    (λ c. search rules)
    put_number_requires
    (λ c. search rules)
    put_number_requires_2
    put_signed_requires
    put_signed_requires_2
    (λ c. search rules)
    put_number_requires_3
    (λ c. search rules)
    put_number_requires_4
    (λ c. search rules)
    put_number_requires_5
    same_length
    returns)
