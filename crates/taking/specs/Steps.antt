-- One step of a run. 01, "Running a block" and "Alarms and their order": "then blocks as run: 13, 14, 10, 11, 12, 15, 16, 17, 19, 18, 20. A refused block writes nothing." "A run begins at most
-- 20,000 blocks, repeats and calls counted." "Place: first byte of the line; the program line where a program ends early".
use Rattle.std.specs.Prelude.{cond, List, [], ℕ, ◌+◌, ◌-◌, ltb, eqb, ℤ, length}
use Rattle.alarms.specs.Numbers.{too_many_begun, wrong_end}
use Rattle.moves.specs.Form.{room_of, stamped}
use Rattle.moves.specs.declared.Record.{Record}
use Rattle.moves.specs.declared.Origin.{Origin}
use Rattle.moves.specs.declared.Listed.{Listed}
use Rattle.tape.specs.Lines.{text_at, lines}
use Rattle.block.specs.Words.{longest_line, no_words, line_of}
use Rattle.requests.specs.Request.{request_of}
use Rattle.block.specs.declared.Block.{Block}
use Rattle.settings.specs.declared.Settings.{Settings}
use Rattle.finding.specs.Finding.{first_block, block_number_at}
use Rattle.places.specs.declared.Found.{Found}
use Rattle.places.specs.declared.Found.TheVariants.{At, Nowhere}
use Rattle.machine.specs.of_verdicts.Verdicts.{alarm_in}
use Rattle.machine.specs.Blocks.{done_records, done_state}
use Rattle.ahead.specs.Ahead.{onto, looked_up}
use Rattle.ahead.specs.declared.Frame.{Frame}
use Rattle.ahead.specs.declared.Onward.{Onward}
use Rattle.ahead.specs.declared.Onward.TheVariants.{On, Call, Jump, Return, End, Stop}
use Rattle.taking.specs.declared.Run.{Run}
use Rattle.taking.specs.declared.StepDone.{StepDone}

-- WHAT A RUN IS GIVEN: the tape up to where reading ended, the table, the settings, the place of the first line, and how many records have room
pub record Task : Type 0 where
  pub tape : List ℕ
  pub table : List ℤ
  pub settings : Settings
  pub first : ℕ
  pub room : ℕ

abbrev pub task_in : List ℕ → List ℤ → Settings → ℕ → ℕ → Task
task_in tape table set first room = record { tape = tape; table = table; settings = set; first = first; room = room }

-- with a buffer of so many bytes
abbrev pub task_of : List ℕ → List ℤ → Settings → ℕ → ℕ → Task
task_of tape table set first bytes = task_in tape table set first (room_of bytes)

-- the words of a block line; one that is too long has none (no tape with such a line is run, it is alarm 7)
unfoldable pub block_in : List ℕ → Block
block_in line = cond (ltb longest_line (length line)) no_words (line_of line).block

-- the words of the block line at a place
unfoldable pub block_on : List ℕ → ℕ → Block
block_on tape p = block_in (text_at tape p).bytes

-- ---- the block at the frame's place
-- what it asks of the runner, where so many blocks may still begin: 13, or what is looked up for it
unfoldable pub onward_by : List ℕ → Settings → ℕ → Frame → ℕ → Block → Onward
onward_by tape set first f left b = cond (eqb left 0) (Stop too_many_begun f.at) (looked_up tape set first f (request_of b))

abbrev pub onward_of : Task → Frame → Run → Onward
onward_of t f r = onward_by t.tape t.settings t.first f r.blocks_left (block_on t.tape f.at)

-- the alarm that the runner is asked to stop with, 0 for none
unfoldable pub alarm_by : Onward → ℕ
alarm_by (Stop alarm place) = alarm
alarm_by On = 0
alarm_by (Call program times) = 0
alarm_by (Jump place) = 0
alarm_by Return = 0
alarm_by End = 0

-- its alarm, 0 for none: that of what it asks of the runner, else its own, 15 to 20
unfoldable pub alarm_at : Task → Frame → Run → ℕ
alarm_at t f r =
    let asked = alarm_by (onward_of t f r) in
    cond (eqb asked 0) (alarm_in t.table t.settings r.state (block_on t.tape f.at) (t.room - r.count)) asked

-- the run after the block at a place, where it is done
unfoldable pub run_after : Task → ℕ → Run → Run
run_after t at r =
    let b = block_on t.tape at in
    record {
      state = done_state t.table t.settings r.state b;
      blocks_left = r.blocks_left - 1;
      count = r.count + length (done_records t.table t.settings r.state b);
    }

-- what comes of it: the alarm leaves the run as it was
unfoldable pub done_at : Task → Frame → Run → StepDone
done_at t f r =
    cond (eqb (alarm_at t f r) 0)
    (record { onward = onward_of t f r; run = run_after t f.at r; after = (text_at t.tape f.at).after })
    (record { onward = Stop (alarm_at t f r) f.at; run = r; after = (text_at t.tape f.at).after })

-- the records that it writes
unfoldable pub records_at : Task → Frame → Run → List Record
records_at t f r = cond (eqb (alarm_at t f r) 0) (done_records t.table t.settings r.state (block_on t.tape f.at)) []

-- what comes of a block without words: the run goes on behind it, with one block fewer to begin
abbrev pub passed_by : Run → ℕ → StepDone
passed_by r after = record { onward = On; run = record { state = r.state; blocks_left = r.blocks_left - 1; count = r.count }; after = after }

-- ---- where the records of a block came from. 02, request 7: "Each record ends with the 16-bit program number and block number it came from .. For a move inside a subprogram it is the
-- subprogram's block": the number of the frame's program, and that of the block line at its place
unfoldable pub origin_at : List ℕ → Frame → Origin
origin_at tape f = record { program = f.program.number; block = block_number_at tape f.at }

-- ---- A STEP of a run: a block, by its place on the tape, where its records came from, the run in which it was begun, and the records that it wrote
pub record Step : Type 0 where
  pub place : ℕ
  pub origin : Origin
  pub before : Run
  pub records : List Record

-- its records as they stand in the list
abbrev pub listed_by : Step → List Listed
listed_by st = stamped st.origin st.records

-- what comes of a step, and the step
pub record Taken : Type 0 where
  pub done : StepDone
  pub step : Step

-- the step from the frame's place on: the next block of the program, or 14 at the program's line where it ends before
unfoldable pub taken_by : Task → Frame → Run → Found → Taken
taken_by t f r (At p) = record { done = done_at t (onto f p) r; step = record { place = p; origin = origin_at t.tape (onto f p); before = r; records = records_at t (onto f p) r } }
taken_by t f r Nowhere =
    record { done = record { onward = Stop wrong_end f.program.line; run = r; after = f.at }; step = record { place = f.program.line; origin = origin_at t.tape (onto f f.program.line); before = r; records = [] } }

unfoldable pub taken_from : Task → Frame → Run → Taken
taken_from t f r = taken_by t f r (first_block (lines t.tape f.at))
