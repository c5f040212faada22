-- `groovable::fits_across` meets its contract.
use mathlib.Core.Path.{ap, ◌∙◌}
use native.Mathlib.Omega.{arith}
use lib.IntN.{ℤ, ◌-ℤ◌, nat_abs}
use mir.Facts.{to_z-of_z}
use borrow.Author.Rules.{rules}
use Rattle.telling.proofs.Tells.{tells_at_most}
use Rattle.division.specs.Division.{sum}
use Rattle.division.specs.Carried.{row_of}
use Rattle.groovable.proofs.Fit.{least, room_fits, fits_room}
use Rattle.groovable.proofs.fits_across.Statement.{statement}
use Rattle.groovable.proofs.fits_across.Tie as tie

returns : tie.Need-returns
returns c =
    let room = c.distance-room in
    let s = c in
    let is = room.ensures ∙ ap (λ (w : ℤ). nat_abs (w -ℤ least)) (to_z-of_z s.ranges.width) in
    let w = s.args.width in
    let n = sum (row_of s.args.steps) in
    let f = s.ranges.width in
    let all = c.total-across.ensures in
    tells_at_most c.total-across.result room.result
    (λ e. (omega (arith, e, all, room.type_inv), room_fits w n f (omega (arith, e, all, is))))
    (λ h. omega (arith, fits_room w n f h.1, all, is))

pub fits_across_spec : {M : Type 1} → statement M
fits_across_spec = tie.close (tie.spec (λ c κs. search rules) (λ c κs. search rules) (λ c. search rules) returns)
