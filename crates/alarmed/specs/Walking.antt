-- THE BLOCK THAT FOLLOWS. 01: "Running a program runs its blocks, and a call block runs a program again. .. M17 returns. G27 goes to the block numbered L of the same program." "repeats 0 means once". "M30 ends the run."
-- A run is walked from block to block, with the programs that are open kept beside it: nothing here is taken from how a run is worked out (`runners`).
use Rattle.std.specs.Prelude.{◌≡◌, List, [], ◌∷◌, ℕ, zero, suc, length}
use Rattle.alarms.specs.Numbers.{wrong_end}
use Rattle.tape.specs.Lines.{line_at, lines}
use Rattle.finding.specs.Finding.{find_program, first_block, block_of_program, block_number_at}
use Rattle.places.specs.declared.Found.{Found}
use Rattle.places.specs.declared.Found.TheVariants.{At, Nowhere}
use Rattle.requests.specs.Request.{request_of}
use Rattle.requests.specs.declared.Request.{Request}
use Rattle.requests.specs.declared.Request.TheVariants.{On, Call, Jump, Return, End}
use Rattle.demands.specs.of_machine.Blocks.{done_records}
use Rattle.demands.specs.of_taking.Steps.{Task, Step, block_on, run_after}
use Rattle.ahead.specs.declared.ProgramAt.{ProgramAt}
use Rattle.demands.specs.of_taking.declared.Run.{Run}
use Rattle.alarmed.specs.Order.{Passes, Refused}
use Rattle.alarmed.specs.Tests.{Begun, block_order}

-- A PROGRAM THAT IS OPEN: its number and the place of its line, the place from which its next block is looked for, and how many times it runs again after this one
pub record Open : Type 0 where
  pub program : ProgramAt
  pub at : ℕ
  pub again : ℕ

-- at its beginning, the line behind its own
abbrev pub opened : Task → ProgramAt → ℕ → Open
opened t program again = record { program = program; at = (line_at t.tape program.line).after; again = again }

-- at another place
abbrev pub moved : Open → ℕ → Open
moved o p = record { program = o.program; at = p; again = o.again }

-- ---- the open programs, the innermost first, after a block; none is open where the run has ended
-- the program p is to run so many times, and then the programs `outer` go on
unfoldable pub runs : Task → ProgramAt → ℕ → List Open → List Open
runs t p zero outer = outer
runs t p (suc again) outer = opened t p again ∷ outer

-- "G27 goes to the block numbered L", which was looked for. (Where there is none the block is refused, 11.)
unfoldable pub jumped : Found → Open → List Open → List Open
jumped (At p) o outer = moved o p ∷ outer
jumped Nowhere o outer = o ∷ outer

-- "a call block runs a program again", the one of the number n, which was looked for. (Where there is none the block is refused, 10.)
unfoldable pub called : Task → Found → ℕ → ℕ → List Open → List Open
called t (At p) n times outer = runs t (record { number = n; line = p }) times outer
called t Nowhere n times outer = outer

-- by what the block asks for; the third: the place of the line behind it. "M17 returns": the program runs again, or the one that called it goes on
unfoldable pub goes_on : Task → Request → ℕ → Open → List Open → List Open
goes_on t On after o outer = moved o after ∷ outer
goes_on t (Jump n) after o outer = jumped (block_of_program n t.tape o.program.line) o outer
goes_on t (Call n times) after o outer = called t (find_program n (lines t.tape t.first)) n times (moved o after ∷ outer)
goes_on t Return after o outer = runs t o.program o.again outer
goes_on t End after o outer = []

-- WHERE A RUN STANDS between two blocks: the open programs, the innermost first, and the run
pub record Standing : Type 0 where
  pub programs : List Open
  pub run : Run

abbrev pub standing : List Open → Run → Standing
standing os r = record { programs = os; run = r }

-- the block at p, begun in the program o that was called from the programs `outer`
abbrev pub begun : Task → Open → List Open → ℕ → Run → Begun
begun t o outer p r = record { task = t; program = o.program.line; deep = length outer; place = p; run = r }

-- where the run stands after it
abbrev pub after : Task → Open → List Open → ℕ → Run → Standing
after t o outer p r = standing (goes_on t (request_of (block_on t.tape p)) (line_at t.tape p).after (moved o p) outer) (run_after t p r)

-- the step that it is: its records come from the open program of that number, and from the block line at p
abbrev pub step_at : Task → ProgramAt → ℕ → Run → Step
step_at t program p r =
    record { place = p; origin = record { program = program.number; block = block_number_at t.tape p }; before = r; records = done_records t.table t.settings r.state (block_on t.tape p) }

-- A WALK: from where the run stands, these steps were done, one after the other, and it stands there. Each is the next block of the innermost program, and no test refuses it
pub data Walk (t : Task) : Standing → List Step → Standing → Type 0 where
  stay : {s : Standing} → Walk t s [] s
  step : {o : Open} {outer : List Open} {r : Run} {p : ℕ} {v : List Step} {s : Standing} → first_block (lines t.tape o.at) ≡ At p → Passes (begun t o outer p r) block_order
      → Walk t (after t o outer p r) v s → Walk t (standing (o ∷ outer) r) (step_at t o.program p r ∷ v) s

-- AN ALARM OF THE RUN, where it stands: its number and its place. 01: "Place: first byte of the line; the program line where a program ends early"
pub data RunRefused (t : Task) : Standing → ℕ → ℕ → Type 0 where
  -- the block that follows is refused
  block : {o : Open} {outer : List Open} {r : Run} {p n : ℕ} → first_block (lines t.tape o.at) ≡ At p → Refused (begun t o outer p r) n block_order
      → RunRefused t (standing (o ∷ outer) r) n p
  -- no block follows: 14, "program ends without either"
  early : {o : Open} {outer : List Open} {r : Run} → first_block (lines t.tape o.at) ≡ Nowhere → RunRefused t (standing (o ∷ outer) r) wrong_end o.program.line
