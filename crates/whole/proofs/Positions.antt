-- The table's range, as a test and as two bounds. No lawful target is refused: what `placed` is there for is that no sum wraps, not that a tape is judged by it.
-- Assumes nothing.
use mathlib.Core.Path.{◌≡◌, refl, sym, subst}
use mathlib.Core.Bool.{Bool, true, false, ◌&&◌}
use lib.Dec.{T}
use lib.IntN.{ℤ, pos, ◌+ℤ◌, ◌*ℤ◌}
use lib.Signed.{lt_z, le_z, ◌≤ℤ◌}
use Rattle.whole.specs.declared.position.Placed.TheVariants.{At}
use Rattle.whole.specs.Position.{table_least, table_greatest, in_table, target_least, target_greatest, placed}
use Rattle.whole.proofs.Integers.{whole, add_in, up_mul, down_mul, le_true, nlt_test}

-- a number in the table's range
pub record InTable (z : ℤ) : Type 0 where
  pub low : table_least ≤ℤ z
  pub high : z ≤ℤ table_greatest

both_true : (a b : Bool) → (a && b) ≡ true → (a ≡ true) × (b ≡ true)
both_true true b h = (refl, h)
both_true false b h = absurd (subst T (sym h) tt)

both : (a b : Bool) → T a → T b → (a && b) ≡ true
both true true h k = refl
both true false h k = absurd k
both false b h k = absurd h

pub in_range : (z : ℤ) → in_table z ≡ true → InTable z
unfolding in_table
in_range z h =
    let p = both_true (le_z table_least z) (le_z z table_greatest) h in
    record { low = omega (whole, le_true table_least z p.0); high = omega (whole, le_true z table_greatest p.1) }

pub in_table_lem : (z : ℤ) → InTable z → in_table z ≡ true
unfolding in_table
in_table_lem z h = both (le_z table_least z) (le_z z table_greatest) h.low.le h.high.le

pub placed_at : (z : ℤ) → target_least ≤ℤ z → z ≤ℤ target_greatest → placed z ≡ At (record { um = z })
unfolding placed
placed_at z l h =
    let low : lt_z z target_least ≡ false = nlt_test z target_least (omega whole) in
    let high : lt_z target_greatest z ≡ false = nlt_test target_greatest z (omega whole) in
    simp (low, high)

-- the target of an X or Z word, with the shifts of groups 3 and 5 and the tool correction
pub word_placed : (word a b t : ℤ) → InTable word → InTable a → InTable b → InTable t
    → placed (word +ℤ (a +ℤ b +ℤ t)) ≡ At (record { um = word +ℤ (a +ℤ b +ℤ t) })
word_placed word a b t hw ha hb ht =
    let x = add_in a b in
    let y = add_in (a +ℤ b) t in
    let z = add_in word (a +ℤ b +ℤ t) in
    placed_at (word +ℤ (a +ℤ b +ℤ t)) (omega whole) (omega whole)

-- the target of a W word and of a U word
pub w_placed : (at w : ℤ) → InTable at → InTable w → placed (at +ℤ w) ≡ At (record { um = at +ℤ w })
w_placed at w ha hw = let z = add_in at w in placed_at (at +ℤ w) (omega whole) (omega whole)

pub u_placed : (at u : ℤ) → InTable at → InTable u → placed (at +ℤ pos 2 *ℤ u) ≡ At (record { um = at +ℤ pos 2 *ℤ u })
u_placed at u ha hu =
    let x = up_mul 2 u in
    let y = down_mul 2 u in
    let z = add_in at (pos 2 *ℤ u) in
    placed_at (at +ℤ pos 2 *ℤ u) (omega whole) (omega whole)
