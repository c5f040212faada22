-- AN ANSWER. 01: "An alarm answers with number, place and records written." "The header is written only when the run succeeds."
use Rattle.std.specs.Prelude.{List, ℕ}
use Rattle.octets.specs.Bytes.{laid}
use Rattle.alarms.specs.Numbers.{wrong_end}
use Rattle.moves.specs.Form.{header_bytes}
use Rattle.settings.specs.declared.Settings.{Settings}
use Rattle.state.specs.Modal.{at_start}
use Rattle.runners.specs.of_taking.declared.Run.{Run}
use Rattle.runners.specs.Runs.{blocks_in_all}
use Rattle.runners.specs.declared.Ending.{Ending}
use Rattle.runners.specs.declared.Ending.TheVariants.{Returned, Ended, Stopped}
use Rattle.answers.specs.declared.Answer.{Answer}
use Rattle.answers.specs.declared.Answer.TheVariants.{Complete, Alarm}

-- 01's values of an answer: the alarm's number, 0 where the list is complete; the place; the records written
abbrev pub number_of : Answer → ℕ
number_of (Complete count) = 0
number_of (Alarm alarm place count) = alarm

abbrev pub place_of : Answer → ℕ
place_of (Complete count) = 0
place_of (Alarm alarm place count) = place

abbrev pub count_of : Answer → ℕ
count_of (Complete count) = count
count_of (Alarm alarm place count) = count

-- a run as an answer. (The main program does not return: M17 in it is alarm 14.)
unfoldable pub answer_by : Ending → ℕ → Answer
answer_by Ended count = Complete count
answer_by (Stopped alarm place) count = Alarm alarm place count
answer_by Returned count = Alarm wrong_end 0 count

-- "At the start: ..": all blocks are left, and no record is written
abbrev pub start_of : Settings → Run
start_of set = record { state = at_start set.x set.z; blocks_left = blocks_in_all; count = 0 }

-- a buffer with the header of a complete list
abbrev pub headed : Answer → List ℕ → List ℕ
headed (Complete count) b = laid b 0 (header_bytes count)
headed (Alarm alarm place count) b = b
