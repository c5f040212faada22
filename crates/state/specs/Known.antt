-- What is known of the machine where a block runs, and of what a target is asked with. Nothing here says what a block does: it is what the code of `targets` and of the
-- crates built on it may rely on, and what their callers show; `Sound` is also what a state from elsewhere is asked for (`stateable`).
use Rattle.std.specs.Prelude.{◌≡◌, true, ℕ, ◌≤◌, ℤ, pos, ◌≤ℤ◌, get_or}
use Rattle.whole.specs.Position.{in_table}
use Rattle.whole.specs.Signed.{minus}
use Rattle.whole.specs.declared.position.Placed.{Placed}
use Rattle.whole.specs.declared.position.Placed.TheVariants.{At, Outside}
use Rattle.acts.specs.Acting.{keep}
use Rattle.acts.specs.declared.Kept.TheVariants.{Nothing}
use Rattle.block.specs.Slots.{w_slot}
use Rattle.block.specs.declared.Block.{Block}
use Rattle.state.specs.declared.State.{State}

-- the position that was placed, else the present one; a lawful word is never sent outside
abbrev pub place_or : Placed → ℤ → ℤ
place_or (At p) present = p.um
place_or Outside present = present

-- the table has the shifts and the correction
pub record Numbers (s : State) : Type 0 where
  pub shift_group3 : s.shift_group3 ≤ 5
  pub shift_group5 : s.shift_group5 ≤ 5
  pub correction : s.correction ≤ 99

-- what is known of the machine between two blocks: its motion function is one that is kept (04 and 84 to 88 are for their block only), the table has its shifts and its correction, and the
-- axes stand in the table's range
pub record Sound (s : State) : Type 0 where
  pub kept : keep s.motion Nothing ≡ s.motion
  pub numbers : Numbers s
  pub x : in_table s.x ≡ true
  pub z : in_table s.z ≡ true

-- an offset is a sum of three numbers of the table, each within 9,999,999
abbrev pub offset_greatest : ℤ
offset_greatest = pos 29_999_997

abbrev pub offset_least : ℤ
offset_least = minus 29_999_997

-- the axes stand in the table's range, the block's path words are in it (they were read), and the offset is no more than three numbers of it make
pub record Sent (s : State) (b : Block) (offset : ℤ) : Type 0 where
  pub x : in_table s.x ≡ true
  pub z : in_table s.z ≡ true
  pub words : (k : ℕ) → k ≤ w_slot → in_table (get_or b.value k (pos 0)) ≡ true
  pub low : offset_least ≤ℤ offset
  pub high : offset ≤ℤ offset_greatest
