-- What the code's runs show. It serves contracts and proofs; what a run is stands in Runs.antt.
use Rattle.std.specs.Prelude.{◌≡◌, List, ℕ, ◌≤◌}
use Rattle.ahead.specs.Ahead.{FoundAt}
use Rattle.ahead.specs.declared.ProgramAt.{ProgramAt}
use Rattle.steps.specs.of_taking.Steps.{Task, Step}
use Rattle.steps.specs.Meets.{Ready, Fit, Wrote}
use Rattle.steps.specs.of_taking.declared.Run.{Run}
use Rattle.runners.specs.declared.Outcome.{Outcome}
use Rattle.runners.specs.Runs.{blocks_in_all, Ran, listed_of, called, program_run}

-- what a program asks for that is begun: it is on the tape, and no more blocks are left than a run may begin
pub record Begins (t : Task) (bytes : ℕ) (places : List ℕ) (count : ℕ) (program : ProgramAt) (r : Run) : Type 0 where
  pub ready : Ready t bytes places count
  pub fit : Fit t r
  pub there : FoundAt t.tape t.first program
  pub few : r.blocks_left ≤ blocks_in_all

-- from the run r and the buffer b to the run s and the buffer e some steps were taken
abbrev pub Took : Task → List ℕ → Run → List Step → List ℕ → Run → Type 0
Took t b r v e s = Wrote t b r (listed_of v) e s

pub record RanMeets (t : Task) (x : Ran) (b : List ℕ) (r : Run) (o : Outcome) (e : List ℕ) : Type 0 where
  pub outcome : o ≡ x.outcome
  pub took : Took t b r x.steps e o.run

abbrev pub ProgramMeets : Task → List ℕ → ProgramAt → ℕ → Run → Outcome → List ℕ → Type 0
ProgramMeets t b program calls r o e = RanMeets t (program_run t program calls r) b r o e

abbrev pub CallMeets : Task → List ℕ → ProgramAt → ℕ → ℕ → Run → Outcome → List ℕ → Type 0
CallMeets t b program calls times r o e = RanMeets t (called t calls program times r) b r o e
