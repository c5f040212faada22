-- WHERE ALARMS COME, of every tape, table, settings, table of places and buffer: the other half of demand 2. An alarm of reading stands at the first line that is refused; one of the run at the block that follows the steps
-- done; where nothing refuses, there is a list.
use Rattle.std.specs.Prelude.{◌≡◌, Bool, true, false, cond, List, [], ◌∷◌, ◌++◌, ℕ, ◌+◌, length, take}
use Rattle.alarms.specs.Numbers.{program_missing}
use Rattle.settings.specs.Points.{with_points}
use Rattle.tape.specs.Lines.{seek_from, opens_tape, Text, lines}
use Rattle.block.specs.Words.{line_of}
use Rattle.reading.specs.Reading.{History, nothing_read, noted, ends_with}
use Rattle.finding.specs.Finding.{find_program}
use Rattle.places.specs.declared.Found.{Found}
use Rattle.places.specs.declared.Found.TheVariants.{At, Nowhere}
use Rattle.demands.specs.of_taking.Steps.{Task, task_of, Step}
use Rattle.demands.specs.of_answers.Answers.{start_of}
use Rattle.demands.specs.of_answers.declared.Answer.{Answer}
use Rattle.demands.specs.of_answers.declared.Answer.TheVariants.{Complete, Alarm}
use Rattle.demands.specs.of_interpreter.Answers.{Result, main_at, interpretation}
use Rattle.alarmed.specs.Order.{Passes, Refused}
use Rattle.alarmed.specs.Tests.{Input, input_order, Line, is_entry, line_order}
use Rattle.alarmed.specs.Walking.{opened, Standing, standing, Walk, RunRefused}

-- ---- READING
-- "All bytes before the first `%` or `O` are ignored (001); the first line begins there": its place, and the lines from there on
abbrev pub first_of : List ℕ → ℕ
first_of tape = seek_from opens_tape tape 0

abbrev pub lines_of : List ℕ → List Text
lines_of tape = lines tape (first_of tape)

-- what was read so far: the numbers, and how many program lines and blocks these are
pub record Sofar : Type 0 where
  pub history : History
  pub entries : ℕ

abbrev pub at_first : Sofar
at_first = record { history = nothing_read; entries = 0 }

-- a line as it is judged behind what was read; what was read with it; and whether reading ends with it, "a line whose last word is M30"
abbrev pub as_line : Input → Sofar → Text → Line
as_line i h t = record { text = t.bytes; history = h.history; entries = h.entries; points = i.settings.points; size = i.size }

abbrev pub with : Sofar → Text → Sofar
with h t = record { history = noted h.history (line_of t.bytes).head; entries = h.entries + cond (is_entry (line_of t.bytes).head) 1 0 }

abbrev pub is_last : Text → Bool
is_last t = ends_with (line_of t.bytes).head (line_of t.bytes).block.ends

-- lines that are accepted, one after the other, and with none of which reading ends: from what was read before them to what was read with them
pub data Accepted (i : Input) : Sofar → List Text → Sofar → Type 0 where
  none : {h : Sofar} → Accepted i h [] h
  one : {h k : Sofar} {t : Text} {ts : List Text} → Passes (as_line i h t) line_order → is_last t ≡ false → Accepted i (with h t) ts k → Accepted i h (t ∷ ts) k

-- a line of some lines that is reached: every line before it is accepted. The fourth: what was read before it
pub record Reached (i : Input) (h : Sofar) (ts : List Text) (k : Sofar) (line : Text) : Type 0 where
  pub before : List Text
  pub behind : List Text
  pub are : ts ≡ before ++ (line ∷ behind)
  pub accepted : Accepted i h before k

-- AN ALARM OF READING stands at the first byte of the first line that is refused
pub data LineRefused (i : Input) : ℕ → ℕ → Type 0 where
  refuses : {h : Sofar} {line : Text} {n : ℕ} → Reached i at_first (lines_of i.tape) h line → Refused (as_line i h line) n line_order → LineRefused i n line.place

-- A TAPE IS READ up to a place: every line is accepted, to the end of the tape or to the end of a line with which reading ends
pub data ReadTo (i : Input) : ℕ → Type 0 where
  all : {h : Sofar} → Accepted i at_first (lines_of i.tape) h → ReadTo i (length i.tape)
  ended : {h : Sofar} {line : Text} → Reached i at_first (lines_of i.tape) h line → Passes (as_line i h line) line_order → is_last line ≡ true → ReadTo i line.after

-- ---- RUNNING
-- what a run is given, where the tape is read up to `end`. Points are asked for where a tape is read, and a run has that setting off
abbrev pub task_to : Input → ℕ → Task
task_to i end = task_of (take end i.tape) i.table (with_points false i.settings) (first_of i.tape) i.bytes

-- the main program, and the run at its beginning: no program calls it, and it runs once
abbrev pub main_in : Input → ℕ → Found
main_in i end = find_program i.settings.main (lines (take end i.tape) (first_of i.tape))

abbrev pub begins : Input → ℕ → ℕ → Standing
begins i end main = standing (opened (task_to i end) (main_at i.settings main) 0 ∷ []) (start_of i.settings)

-- ---- WHAT AN ANSWER STANDS ON: it is one of these, with the steps that were done
pub data Stands (i : Input) : Answer → List Step → Type 0 where
  -- 1 to 4, "0 for 1 to 4 .., the count is 0"
  input : {n : ℕ} → Refused i n input_order → Stands i (Alarm n 0 0) []
  -- an alarm of reading
  line : {n place : ℕ} → Passes i input_order → LineRefused i n place → Stands i (Alarm n place 0) []
  -- "then 10 for the main"
  main : {end : ℕ} → Passes i input_order → ReadTo i end → main_in i end ≡ Nowhere → Stands i (Alarm program_missing 0 0) []
  -- an alarm of the run, with the count of the records that are written
  run : {end p n place : ℕ} {v : List Step} {s : Standing} → Passes i input_order → ReadTo i end → main_in i end ≡ At p → Walk (task_to i end) (begins i end p) v s
      → RunRefused (task_to i end) s n place → Stands i (Alarm n place s.run.count) v
  -- a list: the run has ended
  list : {end p : ℕ} {v : List Step} {s : Standing} → Passes i input_order → ReadTo i end → main_in i end ≡ At p → Walk (task_to i end) (begins i end p) v s → s.programs ≡ []
      → Stands i (Complete s.run.count) v

-- ---- NOTHING REFUSES: not 1 to 4, no line, the main program is there, and no block that a run comes to
pub record Free (i : Input) : Type 0 where
  pub passes : Passes i input_order
  pub no_line : (n place : ℕ) → LineRefused i n place → ⊥
  pub main_there : (end : ℕ) → ReadTo i end → main_in i end ≡ Nowhere → ⊥
  pub no_block : (end p n place : ℕ) (v : List Step) (s : Standing) → ReadTo i end → main_in i end ≡ At p → Walk (task_to i end) (begins i end p) v s → RunRefused (task_to i end) s n place → ⊥

-- an answer is a list
abbrev pub IsComplete : Answer → Type 0
IsComplete (Complete count) = Unit {0}
IsComplete (Alarm n place count) = ⊥

-- THE STATEMENT, of every input i: its answer, with its steps, stands on what was judged and done; nothing else does; and where nothing refuses, it is a list
abbrev pub answered : Input → Result
answered i = interpretation i.tape i.table i.settings i.size i.bytes

pub record AlarmsStand (i : Input) : Type 0 where
  pub stands : Stands i (answered i).answer (answered i).steps
  pub alone : (a : Answer) (v : List Step) → Stands i a v → (a ≡ (answered i).answer) × (v ≡ (answered i).steps)
  pub listed : Free i → IsComplete (answered i).answer
