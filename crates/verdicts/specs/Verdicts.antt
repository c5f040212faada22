-- 01, "Running a block": what one block asks for and whether it is refused, of the state before it, the table, the settings and the words that apply. "A block's own G and T words act before
-- its move." "then blocks as run: .. 15, 16, 17, 19, 18, 20."
use Rattle.std.specs.Prelude.{cond, List, ℕ, eqb, ℤ}
use Rattle.block.specs.declared.Block.{Block}
use Rattle.settings.specs.declared.Settings.{Settings}
use Rattle.state.specs.Modal.{settled, block_motion}
use Rattle.targets.specs.Target.{offset_of, target_x, target_z}
use Rattle.state.specs.declared.State.{State}
use Rattle.deeds.specs.Deed.{deed_of}
use Rattle.asking.specs.Judge.{asks_of, alarm_of}
use Rattle.deeds.specs.declared.Deed.{Deed}
use Rattle.scaling.specs.declared.Sending.{Sending}
use Rattle.asking.specs.declared.Asked.{Asked}
use Rattle.asking.specs.declared.Asks.{Asks}
use Rattle.writing.specs.Writes.{other_count}
use Rattle.verdicts.specs.declared.Going.{Going}
use Rattle.verdicts.specs.declared.Verdict.{Verdict}
use Rattle.verdicts.specs.declared.Verdict.TheVariants.{Refused, Goes}

-- where a block sends the axes: from where they stand, by the offset that its own words have called, with the feed that they have set
unfoldable pub sending_of : List ℤ → Settings → State → Block → Sending
sending_of table set s b =
    let t = settled s b in
    let o = offset_of table t in
    record { x = t.x; z = t.z; x_target = target_x t b o.x; z_target = target_z t b o.z; f = t.f; g95 = t.g95; retract = set.retract; empty_cuts = set.empty_cuts }

-- its deed, by its own motion, or the one that was kept before it
unfoldable pub deed_in : List ℤ → Settings → State → Block → Deed
deed_in table set s b = deed_of (block_motion s.motion b) b (sending_of table set s b)

-- what the alarms ask of the deed, and what they ask beside it, where so many records may still be written
unfoldable pub asks_in : List ℤ → Settings → State → Block → Asks
asks_in table set s b = asks_of (deed_in table set s b) set.limits

unfoldable pub asked_in : State → Block → ℕ → Asked
asked_in s b room =
    let t = settled s b in
    record { rapid_due = t.rapid_due; f = t.f; other_count = other_count b; room_left = room }

-- its alarm, 0 for none
unfoldable pub alarm_in : List ℤ → Settings → State → Block → ℕ → ℕ
alarm_in table set s b room = alarm_of (asks_in table set s b) (asked_in s b room)

-- the verdict: its alarm, or what is to be done
unfoldable pub going_of : List ℤ → Settings → State → Block → Going
going_of table set s b = record { settled = settled s b; deed = deed_in table set s b; count = (asks_in table set s b).count }

unfoldable pub verdict_of : List ℤ → Settings → State → Block → ℕ → Verdict
verdict_of table set s b room = cond (eqb (alarm_in table set s b room) 0) (Goes (going_of table set s b)) (Refused (alarm_in table set s b room))
