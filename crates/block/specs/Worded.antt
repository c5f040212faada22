-- 01: "X Z U W P numbers: .. 1 to 7 digits without a point, .. or at most 4 digits, a point and at most 3 digits"; "D at most 32,767"; 02: "I and K, numbers like X". What is known of the numbers
-- of a block that was read.
use Rattle.std.specs.Prelude.{◌≡◌, true, ℕ, ◌≤◌, ◌<◌, pos, nat_abs, get_or}
use Rattle.whole.specs.Position.{in_table}
use Rattle.block.specs.declared.Block.{Block}
use Rattle.block.specs.Slots.{k_slot, d_slot}

-- What is known of a block that was read: its path words, and I and K, which lie behind them, are in the range of the table, since they have at most seven digits, its D words are at most 32,767, and no word
-- has more than seven digits.
pub record Worded (b : Block) : Type 0 where
  pub paths : (k : ℕ) → k ≤ k_slot → in_table (get_or b.value k (pos 0)) ≡ true
  pub each : (k : ℕ) → nat_abs (get_or b.value k (pos 0)) < 10_000_000
  pub settings : (i : ℕ) → i < 10 → nat_abs (get_or b.value (d_slot i) (pos 0)) < 32_768
