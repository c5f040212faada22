-- 01, "Running a block": what one block does, of the state before it, the table, the settings and the words that apply. "A refused block writes nothing."
use Rattle.std.specs.Prelude.{Bool, cond, List, [], ℕ, ◌+◌, ◌-◌, eqb, ℤ, length}
use Rattle.moves.specs.declared.Record.{Record}
use Rattle.block.specs.declared.Block.{Block}
use Rattle.settings.specs.declared.Settings.{Settings}
use Rattle.state.specs.Modal.{settled}
use Rattle.state.specs.declared.State.{State}
use Rattle.writing.specs.Writes.{done, writes}
use Rattle.verdicts.specs.Verdicts.{deed_in, alarm_in}
use Rattle.machine.specs.declared.BlockOutcome.{BlockOutcome}
use Rattle.machine.specs.declared.BlockOutcome.TheVariants.{Refused, Done}

-- it is done, and not refused, where so many records may still be written
abbrev pub goes_well : List ℤ → Settings → State → Block → ℕ → Bool
goes_well table set s b room = eqb (alarm_in table set s b room) 0

-- the records of a block that is done, and the state after it
unfoldable pub done_records : List ℤ → Settings → State → Block → List Record
done_records table set s b = writes (settled s b) b (deed_in table set s b)

unfoldable pub done_state : List ℤ → Settings → State → Block → State
done_state table set s b = done (settled s b) (deed_in table set s b)

-- the records that a block writes: a refused one none
unfoldable pub block_records : List ℤ → Settings → State → Block → ℕ → List Record
block_records table set s b room = cond (goes_well table set s b room) (done_records table set s b) []

-- what comes of a block, with k records written before it in a buffer that has room for `room`: its alarm, or the state after it and the records written by then
unfoldable pub outcome_of : List ℤ → Settings → State → Block → ℕ → ℕ → BlockOutcome
outcome_of table set s b room k =
    cond (goes_well table set s b (room - k))
    (Done (record { state = done_state table set s b; count = k + length (done_records table set s b) }))
    (Refused (alarm_in table set s b (room - k)))
