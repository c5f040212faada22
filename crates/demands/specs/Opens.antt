-- DEMAND 3, which G84 a block opens, and which G85, for the promise of threads: read off the block's words and the state before it, and not off what the block did.
use Rattle.std.specs.Prelude.{Bool, List, ℤ}
use Rattle.codes.specs.Codes.{turning_number, threading_number}
use Rattle.block.specs.Slots.{group_zero_is}
use Rattle.block.specs.declared.Block.{Block}
use Rattle.state.specs.Modal.{settled}
use Rattle.targets.specs.Target.{offset_of}
use Rattle.state.specs.declared.State.{State}
use Rattle.scaling.specs.Wanted.{wanted, thread_wanted}
use Rattle.settings.specs.declared.Settings.{Settings}
use Rattle.turning.specs.declared.Turning.{Turning}
use Rattle.threading.specs.declared.Thread.{Thread}

-- the G word of group 0 that applies is G84
abbrev pub opens_turning : Block → Bool
opens_turning b = group_zero_is b turning_number

-- the cycle that it asks for in the state s before it, in demand 3's own words. What its G and T words set, and so the offset, are those of every block (state/Modal, state/Target): "A block's own
-- G and T words act before its move." (A G84 with a T word or a word of group 3 or 5 is alarm 16, so that its offset is the one of before.)
unfoldable pub wanted_in : List ℤ → State → Block → Turning
wanted_in table s b = wanted b (settled s b) (offset_of table (settled s b))

-- the same of G85: the thread that it asks for, with the empty cuts of the settings where it names none
abbrev pub opens_threading : Block → Bool
opens_threading b = group_zero_is b threading_number

unfoldable pub thread_in : List ℤ → Settings → State → Block → Thread
thread_in table set s b = thread_wanted b (settled s b) (offset_of table (settled s b)) set.empty_cuts
