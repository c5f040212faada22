-- How many records a block has.
-- Assumes nothing.
use mathlib.Core.Path.{◌≡◌}
use mathlib.Core.List.{List, ◌++◌}
use Prim.Native.Nat.{◌+◌}
use native.Mathlib.Omega.{arith}
use lib.ListN.{length, length-append}
use Rattle.moves.specs.declared.Record.{Record}
use Rattle.block.specs.Slots.{has, s_slot, t_slot, spindle_slot, flow_slot, coolant_slot}
use Rattle.block.specs.declared.Block.{Block}
use Rattle.state.specs.declared.State.{State}
use Rattle.asking.specs.Judge.{doing}
use Rattle.deeds.specs.declared.Deed.{Deed}
use Rattle.writing.specs.Writes.{speed_of, tool_of, m_of, speed_and_tool, spindle_and_coolant, done, stops, stopping, writes, other_count}
use Rattle.writing.proofs.Rows.{one_length, two_length}

module _ (s : State) (b : Block) (d : Deed) where
  abbrev before : List Record
  before = speed_and_tool s b

  abbrev switched : List Record
  switched = spindle_and_coolant s b

  abbrev last : List Record
  last = doing d ++ stopping (done s d) b

  -- how many there are
  pub writes_length : length (writes s b d) ≡ length (doing d) + other_count b
  unfolding writes speed_and_tool spindle_and_coolant stopping other_count
  writes_length =
      let v = doing d in
      omega (
        arith,
        length-append before (switched ++ last),
        length-append switched last,
        length-append v (stopping (done s d) b),
        two_length (has b s_slot) (has b t_slot) (speed_of s b) (tool_of s b),
        two_length (has b spindle_slot) (has b coolant_slot) (m_of s b spindle_slot) (m_of s b coolant_slot),
        one_length (stops b) (m_of (done s d) b flow_slot),
      )
