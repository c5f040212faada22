-- What is known before and after a step. It serves contracts and proofs; what a step is stands in Steps.antt of `taking`.
use Rattle.std.specs.Prelude.{◌≡◌, List, [], ℕ, ◌+◌, ◌≤◌, ◌<◌, length, take}
use Rattle.octets.specs.Bytes.{laid}
use Rattle.moves.specs.Form.{header_size, record_start, row_bytes}
use Rattle.moves.specs.declared.Record.{Record}
use Rattle.moves.specs.declared.Listed.{Listed}
use Rattle.settings.specs.Known.{Table, InRange}
use Rattle.finding.specs.Finds.{Finds}
use Rattle.state.specs.Known.{Sound}
use Rattle.ahead.specs.Ahead.{FoundAt}
use Rattle.ahead.specs.declared.Frame.{Frame}
use Rattle.ahead.specs.declared.Onward.{Onward}
use Rattle.ahead.specs.declared.Onward.TheVariants.{On, Call, Jump, Return, End, Stop}
use Rattle.wording.specs.of_taking.declared.Run.{Run}
use Rattle.wording.specs.of_taking.declared.StepDone.{StepDone}
use Rattle.wording.specs.of_taking.Steps.{Task, listed_by, taken_from}

-- ---- before it
-- alarms 1 and 3 were judged before, and what is looked up in the first entries of the table of places is what the walk finds
pub record Ready (t : Task) (bytes : ℕ) (places : List ℕ) (count : ℕ) : Type 0 where
  pub table : Table t.table
  pub range : InRange t.settings
  pub header : header_size ≤ bytes
  pub filled : count ≤ length places
  pub finds : Finds (take count places) t.tape t.first

-- the machine stands where a block may begin, and no more records are written than there is room for
pub record Fit (t : Task) (r : Run) : Type 0 where
  pub sound : Sound r.state
  pub count : r.count ≤ t.room

-- all that a step asks for: the program is on the tape, and so is the place from which the next block is looked for
pub record Needs (t : Task) (bytes : ℕ) (places : List ℕ) (count : ℕ) (f : Frame) (r : Run) : Type 0 where
  pub ready : Ready t bytes places count
  pub fit : Fit t r
  pub there : FoundAt t.tape t.first f.program
  pub here : f.at ≤ length t.tape

-- ---- after it
-- a program that is called and the place that is jumped to are on the tape, a block that was done leaves one fewer to begin, and a refused one has written nothing
abbrev pub Goes : Task → Run → Run → List Record → Onward → Type 0
Goes t r s v On = s.blocks_left < r.blocks_left
Goes t r s v (Call p times) = (s.blocks_left < r.blocks_left) × FoundAt t.tape t.first p
Goes t r s v (Jump p) = (s.blocks_left < r.blocks_left) × (p ≤ length t.tape)
Goes t r s v Return = Unit {0}
Goes t r s v End = Unit {0}
Goes t r s v (Stop alarm place) = v ≡ []

-- from the run r and the buffer b to the run s and the buffer e the records v were written, each with the block that it came from
pub record Wrote (t : Task) (b : List ℕ) (r : Run) (v : List Listed) (e : List ℕ) (s : Run) : Type 0 where
  pub buffer : e ≡ laid b (record_start r.count) (row_bytes v)
  pub count : s.count ≡ r.count + length v
  pub fit : Fit t s
  pub left : s.blocks_left ≤ r.blocks_left

-- a step that came to d, in the buffer e
pub record StepMeets (t : Task) (b : List ℕ) (f : Frame) (r : Run) (d : StepDone) (e : List ℕ) : Type 0 where
  pub done : d ≡ (taken_from t f r).done
  pub wrote : Wrote t b r (listed_by (taken_from t f r).step) e d.run
  pub goes : Goes t r d.run (taken_from t f r).step.records d.onward
  pub after : d.after ≤ length t.tape
