-- WHAT A RUN THAT WAITS STANDS FOR: the engine of `resuming` (its specs/Engines.antt), and what that still has to hand out.
use Rattle.std.specs.Prelude.{List, [], ◌∷◌, ℕ, zero, suc, ◌-◌, ℤ, get_or, take}
use Rattle.moves.specs.Form.{record_limit}
use Rattle.settings.specs.declared.Settings.{Settings}
use Rattle.finding.specs.Finds.{Finds}
use Rattle.ahead.specs.Ahead.{most_calls, FoundAt}
use Rattle.paused.specs.of_taking.Steps.{Task, task_in}
use Rattle.paused.specs.of_resuming.declared.Waiting.{Waiting}
use Rattle.paused.specs.of_resuming.Handed.{Made, Left}
use Rattle.paused.specs.of_resuming.Engines as engine
use Rattle.paused.specs.Kept.{nobody}
use Rattle.paused.specs.declared.Phase.{Phase}
use Rattle.paused.specs.declared.Phase.TheVariants.{Running, Over}
use Rattle.paused.specs.declared.Going.{Going}

-- the first d programs that wait, the last of them first
unfoldable pub stack_of : List Waiting → ℕ → List Waiting
stack_of ws zero = []
stack_of ws (suc d) = get_or ws d nobody ∷ stack_of ws d

-- the calls that are under way
abbrev pub depth_of : Going → ℕ
depth_of g = most_calls - g.frame.calls_left

abbrev pub phase_of : Phase → engine.Phase
phase_of Running = engine.Running
phase_of (Over a) = engine.Done a

-- the engine, with some records in hand
abbrev pub standing : List Made → Going → engine.Engine
standing l g =
    record {
      rest = l;
      phase = phase_of g.phase;
      calls = g.frame.calls_left;
      program = g.frame.program;
      from = g.frame.at;
      frames = stack_of g.waiting (depth_of g);
      run = g.run;
    }

-- WHAT IT STILL HAS TO HAND OUT
abbrev pub left_for : Task → List Made → Going → Left
left_for t l g = engine.remaining t (standing l g)

-- what a run is given: room for as many records as a list may have. (02: "Of alarm 20 only the record limit remains.")
abbrev pub task_for : List ℕ → List ℤ → Settings → ℕ → Task
task_for tape table set first = task_in tape table set first record_limit

-- ---- what makes its answers those of the list engine: the table of places finds what a walk along the tape finds, and the present program and those that wait are on the tape
unfoldable pub AllFound : List ℕ → ℕ → List Waiting → Type 0
AllFound tape first [] = Unit {0}
AllFound tape first (w ∷ ws) = FoundAt tape first w.program × AllFound tape first ws

pub record Placed (tape places : List ℕ) (first : ℕ) (g : Going) : Type 0 where
  pub finds : Finds (take g.filled places) tape first
  pub there : FoundAt tape first g.frame.program
  pub waits : AllFound tape first (stack_of g.waiting (depth_of g))

-- a run that is over asks for nothing
abbrev pub PlacedOn : Phase → List ℕ → List ℕ → ℕ → Going → Type 0
PlacedOn Running tape places first g = Placed tape places first g
PlacedOn (Over a) tape places first g = Unit {0}
