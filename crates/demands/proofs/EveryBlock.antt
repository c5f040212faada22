-- DEMAND 2 OF THE NEW FIELDS: the program and the block at the end of every record that a run has written are those of its step, and those of the tape.
-- Assumes nothing.
use mathlib.Core.Bool.{false}
use mathlib.Core.List.{List, [], ◌∷◌}
use Prim.Native.Nat.{ℕ, ◌+◌}
use lib.IntN.{ℤ}
use lib.ListN.{length, take}
use Rattle.settings.specs.Points.{with_points}
use Rattle.settings.specs.declared.Settings.{Settings}
use Rattle.ahead.specs.Ahead.{most_calls, FoundAt}
use Rattle.ahead.specs.declared.ProgramAt.{ProgramAt}
use Rattle.interpreter.specs.of_taking.Steps.{Task, task_of, Step}
use Rattle.interpreter.specs.of_runners.Runs.{program_run}
use Rattle.interpreter.specs.of_answers.Answers.{start_of}
use Rattle.interpreter.specs.Answers.{Result, refused, result_of, main_at, interpretation, buffer_of}
use Rattle.demands.specs.Demands.{Each, EachFrom, task}
use Rattle.demands.specs.Origins.{CameFrom, BlockNamed, EveryBlockNamed}
use Rattle.demands.proofs.Buffers.{ReadIn, every_read}
use Rattle.demands.proofs.Results.{every_result}
use Rattle.demands.proofs.Origins.{program_comes}

-- ---- every step came from the block that its numbers name
record Came (t : Task) (x : Result) : Type 0 where
  steps : Each (CameFrom t) x.steps

none_came : (t : Task) (alarm place : ℕ) → Came t (refused alarm place)
unfolding Each
none_came t alarm place = record { steps = tt }

run_came : (t : Task) (p : ProgramAt) → FoundAt t.tape t.first p → Came t (result_of (program_run t p most_calls (start_of t.settings)))
unfolding result_of
run_came t p found = record { steps = program_comes t p most_calls (start_of t.settings) found }

-- ---- with what the buffer holds
both_named : (t : Task) (e : List ℕ) (k : ℕ) (sts : List Step) → EachFrom (ReadIn (λ _ _ _ _. Unit {0}) t e) k sts → Each (CameFrom t) sts → EachFrom (BlockNamed t e) k sts
unfolding EachFrom Each
both_named t e k [] r c = tt
both_named t e k (st ∷ sts) r c = (record { named = r.0.2; came = c.0 }, both_named t e (k + length st.records) sts r.1 c.1)

module _ (tape : List ℕ) (table : List ℤ) (set : Settings) (size : ℕ) where
  pub every_came : (bytes : ℕ) → Each (CameFrom (task tape table set size bytes)) (interpretation tape table set size bytes).steps
  every_came bytes =
      (every_result Came tape table set size bytes (λ t alarm place _ _ _. none_came t alarm place)
      (λ _ _ _ _ first end p _ found. run_came (task_of (take end tape) table (with_points false set) first bytes) (main_at set p) found)).steps

  pub every_block_named : (b : List ℕ) → EveryBlockNamed tape table set size b
  every_block_named b =
      both_named (task tape table set size (length b)) (buffer_of tape table set size b) 0 (interpretation tape table set size (length b)).steps
      (every_read (λ _ _ _ _. Unit {0}) (λ _ _ _ _ _. tt) tape table set size b).steps (every_came (length b))
