-- WHAT THE INTERPRETER ANSWERS AND WHAT THE TABLE OF PLACES AND THE BUFFER HOLD AFTER IT, for every tape, table, settings, table of places and buffer.
-- 01: "1 to 4 in that order; then lines from the front, each 7, 5, 6, 8, 9; then 10 for the main; then blocks as run". (02 takes 8 out, and puts 21 "after 5 and before 6" and 22 "after 9".) "An alarm answers with number, place and records written. Place: .. 0 for 1 to 4 and a missing main; for 1 to 10 (main) the count is 0." "The header is written only
-- when the run succeeds. Bytes beyond the last record stay."
use Rattle.std.specs.Prelude.{false, cond, List, [], ℕ, ltb, ℤ, length, take}
use Rattle.octets.specs.Bytes.{laid}
use Rattle.alarms.specs.Numbers.{bad_settings, tape_too_long, buffer_too_short, program_missing}
use Rattle.moves.specs.Form.{header_size, record_start, row_bytes}
use Rattle.tape.specs.Lines.{lines}
use Rattle.finding.specs.Finding.{find_program}
use Rattle.reading.specs.Reading.{read_of}
use Rattle.reading.specs.Filling.{read_with, places_behind}
use Rattle.reading.specs.Reading as reads
use Rattle.places.specs.declared.Found.{Found}
use Rattle.places.specs.declared.Found.TheVariants.{At, Nowhere}
use Rattle.reading.specs.declared.Read.{Read}
use Rattle.reading.specs.declared.Read.TheVariants as read
use Rattle.settings.specs.declared.Settings.{Settings}
use Rattle.ahead.specs.Ahead.{most_calls}
use Rattle.ahead.specs.declared.ProgramAt.{ProgramAt}
use Rattle.answers.specs.of_taking.Steps.{Task, task_of, Step}
use Rattle.answers.specs.declared.Answer.{Answer}
use Rattle.answers.specs.declared.Answer.TheVariants.{Alarm}
use Rattle.answers.specs.Answers.{answer_by, start_of, headed}
use Rattle.answers.specs.of_runners.Runs.{Ran, listed_of, program_run}
use Rattle.settings.specs.Points.{with_points}
use Rattle.settings.specs.Wrong.{settings_wrong}

-- an answer, and the steps that were taken to it
pub record Result : Type 0 where
  pub answer : Answer
  pub steps : List Step

-- an alarm before any block is begun
abbrev pub refused : ℕ → ℕ → Result
refused alarm place = record { answer = Alarm alarm place 0; steps = [] }

unfoldable pub result_of : Ran → Result
result_of x = record { answer = answer_by x.outcome.ending x.outcome.run.count; steps = x.steps }

-- the main program, whose line stands at p
abbrev pub main_at : Settings → ℕ → ProgramAt
main_at set p = record { number = set.main; line = p }

-- the run of the main program, which was looked for: "then 10 for the main"
unfoldable pub main_by : Task → Found → Result
main_by t Nowhere = refused program_missing 0
main_by t (At p) = result_of (program_run t (main_at t.settings p) most_calls (start_of t.settings))

unfoldable pub main_run : Task → Result
main_run t = main_by t (find_program t.settings.main (lines t.tape t.first))

-- a tape that was read: an alarm, or the run on the tape up to where reading ended. Points are asked for where a tape is read, and a run has no such setting: it is given the settings with that one off
unfoldable pub read_then : List ℕ → List ℤ → Settings → ℕ → Read → Result
read_then tape table set bytes (read.Alarm alarm place) = refused alarm place
read_then tape table set bytes (read.Whole first end) = main_run (task_of (take end tape) table (with_points false set) first bytes)

-- "tape above 65,535 bytes"
abbrev pub longest_tape : ℕ
longest_tape = reads.longest_tape

-- alarms 1 to 3, then what comes of a tape that was read so
unfoldable pub interpretation_by : Read → List ℕ → List ℤ → Settings → ℕ → Result
interpretation_by r tape table set bytes =
    cond (settings_wrong table set) (refused bad_settings 0)
    (cond (ltb longest_tape (length tape)) (refused tape_too_long 0)
    (cond (ltb bytes header_size) (refused buffer_too_short 0) (read_then tape table set bytes r)))

-- THE WHOLE: tape, table, settings, the length of the table of places, and that of the buffer
unfoldable pub interpretation : List ℕ → List ℤ → Settings → ℕ → ℕ → Result
interpretation tape table set size bytes = interpretation_by (read_with set.points size tape).read tape table set bytes

-- the same in the first layout, which knows no table of places
unfoldable pub first_interpretation : List ℕ → List ℤ → Settings → ℕ → Result
first_interpretation tape table set bytes = interpretation_by (read_of set.points tape) tape table set bytes

abbrev pub answer_of : List ℕ → List ℤ → Settings → ℕ → ℕ → Answer
answer_of tape table set size bytes = (interpretation tape table set size bytes).answer

-- the table of places after it: the lines read and accepted, in their order, and all other entries as they came. Nothing is read after 1 to 3
unfoldable pub row_of : List ℕ → List ℤ → Settings → ℕ → ℕ → List ℕ
row_of tape table set size bytes =
    cond (settings_wrong table set) [] (cond (ltb longest_tape (length tape)) [] (cond (ltb bytes header_size) [] (read_with set.points size tape).row))

abbrev pub places_of : List ℕ → List ℤ → Settings → List ℕ → ℕ → List ℕ
places_of tape table set places bytes = places_behind (row_of tape table set (length places) bytes) places

-- the buffer after it: the records of the steps behind the header's place, each with the block that it came from, all other bytes as they came, and the header where the list is complete
unfoldable pub laid_by : Result → List ℕ → List ℕ
laid_by x b = headed x.answer (laid b (record_start 0) (row_bytes (listed_of x.steps)))

abbrev pub buffer_of : List ℕ → List ℤ → Settings → ℕ → List ℕ → List ℕ
buffer_of tape table set size b = laid_by (interpretation tape table set size (length b)) b
