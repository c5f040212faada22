-- The sum and the doubled word fit 64 bits, so that nothing wraps.
use Rattle.std.proofs.Common.{◌≡◌, ℤ, pos, ◌+ℤ◌, ◌*ℤ◌, to_z, of_z, w32, w64, SFits, ap, ◌∙◌, to_z-of_z}
use Rattle.whole.specs.Position.{placed}
use Rattle.whole.proofs.Integers.{whole, add_in, up_mul, down_mul}
use Rattle.whole.proofs.position.Position.moved_by_u.Goals as goal

sum_is : (at u : ℤ) → SFits w32 at → SFits w32 u
    → to_z w64 (of_z w64 (to_z w64 (of_z w64 at) +ℤ to_z w64 (of_z w64 (pos 2 *ℤ to_z w64 (of_z w64 u))))) ≡ at +ℤ pos 2 *ℤ u
sum_is at u f g =
    let x = up_mul 2 u in
    let y = down_mul 2 u in
    let z = add_in at (pos 2 *ℤ u) in
    let a = to_z-of_z {w = w64} {z = at} (omega whole) in
    let b = to_z-of_z {w = w64} {z = u} (omega whole) in
    let d = to_z-of_z {w = w64} {z = pos 2 *ℤ u} (omega whole) in
    let e = to_z-of_z {w = w64} {z = at +ℤ pos 2 *ℤ u} (omega whole) in
    simp (a, b, d, e)

pub returns : goal.returns
returns c =
    let p = c.from.ensures ∙ to_z-of_z c.ranges.present in
    let q = c.from-2.ensures ∙ to_z-of_z c.ranges.u in
    c.place.ensures
    ∙ (λ i. placed (to_z w64 (of_z w64 (to_z w64 (of_z w64 (p i)) +ℤ to_z w64 (of_z w64 (pos 2 *ℤ to_z w64 (of_z w64 (q i))))))))
    ∙ ap placed (sum_is c.args.present c.args.u c.ranges.present c.ranges.u)
