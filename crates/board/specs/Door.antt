-- THE DOOR: tape, table, settings as a row of numbers (panel/specs/Row.antt), the table of places and the buffer. (An answer as one number: packing/specs/Packing.antt.)
use Rattle.std.specs.Prelude.{◌≡◌, true, false, cond, List, [], ℕ, ℤ, length}
use Rattle.alarms.specs.Numbers.{bad_settings}
use Rattle.panel.specs.Row.{unfit, settings_of}
use Rattle.alarmed.specs.of_interpreter.Answers.{Result, refused, interpretation, first_interpretation, places_of, laid_by}
use Rattle.alarmed.specs.of_answers.declared.Answer.{Answer}
use Rattle.alarmed.specs.of_taking.Steps.{Task}
use Rattle.alarmed.specs.of_demands.Demands.{Owed, OwedList, TableAfter, Each, EachFrom, EveryCycle, CutIn, Threads, ThreadsIn, task}
use Rattle.alarmed.specs.of_demands.Origins.{BlockNamed}
use Rattle.alarmed.specs.of_demands.Placed.{accepted_in}
use Rattle.alarmed.specs.of_demands.Strokes.{Deepens, DeepensIn}
use Rattle.alarmed.specs.of_demands.Arcs.{ArcsOwed, ArcsOwedIn, Rounds, RoundsIn}
use Rattle.tape.specs.Lines.{Text}
use Rattle.alarmed.specs.Tests.{Input}
use Rattle.alarmed.specs.Alarmed.{answered, AlarmsStand}

-- tape, table, the settings as they came, the length of the table of places, and that of the buffer
unfoldable pub at_door : List ℕ → List ℤ → List ℤ → ℕ → ℕ → Result
at_door tape table numbers size bytes = cond (unfit numbers) (refused bad_settings 0) (interpretation tape table (settings_of numbers) size bytes)

-- the same in the first layout, which knows no table of places
unfoldable pub first_at_door : List ℕ → List ℤ → List ℤ → ℕ → Result
first_at_door tape table numbers bytes = cond (unfit numbers) (refused bad_settings 0) (first_interpretation tape table (settings_of numbers) bytes)

abbrev pub answer_at : List ℕ → List ℤ → List ℤ → ℕ → ℕ → Answer
answer_at tape table numbers size bytes = (at_door tape table numbers size bytes).answer

-- the table of places after it
unfoldable pub places_at : List ℕ → List ℤ → List ℤ → List ℕ → ℕ → List ℕ
places_at tape table numbers places bytes = cond (unfit numbers) places (places_of tape table (settings_of numbers) places bytes)

abbrev pub buffer_at : List ℕ → List ℤ → List ℤ → ℕ → List ℕ → List ℕ
buffer_at tape table numbers size b = laid_by (at_door tape table numbers size (length b)) b

-- the lines that are read and accepted
unfoldable pub accepted_at : List ℕ → List ℤ → List ℤ → ℕ → ℕ → List Text
accepted_at tape table numbers size bytes = cond (unfit numbers) [] (accepted_in tape table (settings_of numbers) size bytes)

-- ---- THE DEMANDS at the door, of every tape, table, row of settings, table of places and buffer
abbrev pub DemandOneAtDoor : List ℕ → List ℤ → List ℤ → List ℕ → List ℕ → Type 0
DemandOneAtDoor tape table numbers places b =
    Owed (settings_of numbers).points (length tape) (at_door tape table numbers (length places) (length b)) b
    × TableAfter (accepted_at tape table numbers (length places) (length b)) places (places_at tape table numbers places (length b))

abbrev pub DemandTwoAtDoor : List ℕ → List ℤ → List ℤ → ℕ → List ℕ → Type 0
DemandTwoAtDoor tape table numbers size b = OwedList (at_door tape table numbers size (length b)) b

-- of the program and the block at the end of every record
abbrev pub EveryBlockNamedAtDoor : List ℕ → List ℤ → List ℤ → ℕ → List ℕ → Type 0
EveryBlockNamedAtDoor tape table numbers size b =
    EachFrom (BlockNamed (task tape table (settings_of numbers) size (length b)) (buffer_at tape table numbers size b)) 0 (at_door tape table numbers size (length b)).steps

-- where alarms come. The door's own alarm 1 goes before all else; behind it the answer is that of the interpreter, with the settings that the row holds
abbrev pub input_at : List ℕ → List ℤ → List ℤ → ℕ → ℕ → Input
input_at tape table numbers size bytes = record { tape = tape; table = table; settings = settings_of numbers; size = size; bytes = bytes }

pub record AlarmsStandAtDoor (tape : List ℕ) (table numbers : List ℤ) (size bytes : ℕ) : Type 0 where
  pub refuses : unfit numbers ≡ true → at_door tape table numbers size bytes ≡ refused bad_settings 0
  pub takes : unfit numbers ≡ false → at_door tape table numbers size bytes ≡ answered (input_at tape table numbers size bytes)
  pub stands : AlarmsStand (input_at tape table numbers size bytes)

-- demand 3 and the promise of threads: of the records of the steps, and of the bytes of the buffer after the run
abbrev pub task_at : List ℕ → List ℤ → List ℤ → ℕ → ℕ → Task
task_at tape table numbers size bytes = task tape table (settings_of numbers) size bytes

abbrev pub DemandThreeAtDoor : List ℕ → List ℤ → List ℤ → ℕ → ℕ → Type 0
DemandThreeAtDoor tape table numbers size bytes = EveryCycle (task_at tape table numbers size bytes) (at_door tape table numbers size bytes).steps

abbrev pub DemandThreeInBufferAtDoor : List ℕ → List ℤ → List ℤ → ℕ → List ℕ → Type 0
DemandThreeInBufferAtDoor tape table numbers size b =
    EachFrom (CutIn (task_at tape table numbers size (length b)) (buffer_at tape table numbers size b)) 0 (at_door tape table numbers size (length b)).steps

abbrev pub ThreadPromiseAtDoor : List ℕ → List ℤ → List ℤ → ℕ → ℕ → Type 0
ThreadPromiseAtDoor tape table numbers size bytes = Each (Threads (task_at tape table numbers size bytes)) (at_door tape table numbers size bytes).steps

abbrev pub ThreadPromiseInBufferAtDoor : List ℕ → List ℤ → List ℤ → ℕ → List ℕ → Type 0
ThreadPromiseInBufferAtDoor tape table numbers size b =
    EachFrom (ThreadsIn (task_at tape table numbers size (length b)) (buffer_at tape table numbers size b)) 0 (at_door tape table numbers size (length b)).steps

-- the law of G84, G86, G87 and G88, in both forms
abbrev pub DepthLawAtDoor : List ℕ → List ℤ → List ℤ → ℕ → ℕ → Type 0
DepthLawAtDoor tape table numbers size bytes = Each (Deepens (task_at tape table numbers size bytes)) (at_door tape table numbers size bytes).steps

abbrev pub DepthLawInBufferAtDoor : List ℕ → List ℤ → List ℤ → ℕ → List ℕ → Type 0
DepthLawInBufferAtDoor tape table numbers size b =
    EachFrom (DeepensIn (task_at tape table numbers size (length b)) (buffer_at tape table numbers size b)) 0 (at_door tape table numbers size (length b)).steps

-- the promise of arcs, and that a block which asks for an arc writes it
abbrev pub ArcPromiseAtDoor : List ℕ → List ℤ → List ℤ → ℕ → ℕ → Type 0
ArcPromiseAtDoor tape table numbers size bytes = ArcsOwed (settings_of numbers) (at_door tape table numbers size bytes)

abbrev pub ArcPromiseInBufferAtDoor : List ℕ → List ℤ → List ℤ → ℕ → List ℕ → Type 0
ArcPromiseInBufferAtDoor tape table numbers size b = ArcsOwedIn (settings_of numbers) b (at_door tape table numbers size (length b))

abbrev pub ArcsWrittenAtDoor : List ℕ → List ℤ → List ℤ → ℕ → ℕ → Type 0
ArcsWrittenAtDoor tape table numbers size bytes = Each (Rounds (task_at tape table numbers size bytes)) (at_door tape table numbers size bytes).steps

abbrev pub ArcsWrittenInBufferAtDoor : List ℕ → List ℤ → List ℤ → ℕ → List ℕ → Type 0
ArcsWrittenInBufferAtDoor tape table numbers size b =
    EachFrom (RoundsIn (task_at tape table numbers size (length b)) (buffer_at tape table numbers size b)) 0 (at_door tape table numbers size (length b)).steps
