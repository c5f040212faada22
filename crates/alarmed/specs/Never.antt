-- ANSWERS THAT CANNOT COME. The definitions of a run have clauses that no run reaches: a fuel that is used up, a call where none is left, a main program that returns. And where enough is lent, 3 and 22 do not come.
use Rattle.std.specs.Prelude.{◌≡◌, ℕ, ◌<◌, ◌≤◌}
use Rattle.alarms.specs.Numbers.{buffer_too_short, places_too_short}
use Rattle.moves.specs.Form.{header_size}
use Rattle.reading.specs.Filling.{most_places}
use Rattle.ahead.specs.Ahead.{most_calls}
use Rattle.ahead.specs.declared.Frame.{Frame}
use Rattle.ahead.specs.declared.ProgramAt.{ProgramAt}
use Rattle.ahead.specs.declared.Onward.TheVariants.{Call}
use Rattle.demands.specs.of_taking.Steps.{Task, onward_of}
use Rattle.demands.specs.of_taking.declared.Run.{Run}
use Rattle.demands.specs.of_runners.Runs.{blocks, called, program_run}
use Rattle.demands.specs.of_runners.declared.Ending.TheVariants.{Returned}
use Rattle.demands.specs.of_answers.declared.Answer.TheVariants.{Alarm}
use Rattle.alarmed.specs.Tests.{Input}
use Rattle.alarmed.specs.Alarmed.{answered}

-- a program with ten calls left never comes back: M17 in the main program is alarm 14
abbrev pub NeverReturns : Type 0
NeverReturns = (t : Task) (program : ProgramAt) (r : Run) → (program_run t program most_calls r).outcome.ending ≡ Returned → ⊥

-- with no call left no call is asked for: it is alarm 12
abbrev pub NeverCalls : Type 0
NeverCalls = (t : Task) (f : Frame) (r : Run) → f.calls_left ≡ 0 → (program : ProgramAt) (times : ℕ) → onward_of t f r ≡ Call program times → ⊥

-- the fuel is never used up: with more than the blocks that may still begin, any two come to the same run
abbrev pub FuelLasts : Type 0
FuelLasts = (t : Task) (calls n m : ℕ) (f : Frame) (r : Run) → r.blocks_left < n → r.blocks_left < m → blocks (called t calls) t n f r ≡ blocks (called t calls) t m f r

-- ---- 02, request 12, as it is read (36): "3 and 22 cannot come"
-- with a buffer that has room for the header
abbrev pub NeverShort : Type 0
NeverShort = (i : Input) → header_size ≤ i.bytes → (place count : ℕ) → (answered i).answer ≡ Alarm buffer_too_short place count → ⊥

-- with a table of places that is long enough for every tape
abbrev pub NeverFull : Type 0
NeverFull = (i : Input) → most_places ≤ i.size → (place count : ℕ) → (answered i).answer ≡ Alarm places_too_short place count → ⊥
