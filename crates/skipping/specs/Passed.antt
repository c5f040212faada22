-- What is known of the blocks that were passed. It serves contracts and proofs.
use Rattle.std.specs.Prelude.{◌≡◌, List, [], ℕ, ◌≤◌, ℤ, take}
use Rattle.moves.specs.Form.{record_limit}
use Rattle.settings.specs.declared.Settings.{Settings}
use Rattle.finding.specs.Finds.{Finds}
use Rattle.ahead.specs.Ahead.{FoundAt}
use Rattle.ahead.specs.declared.Frame.{Frame}
use Rattle.returning.specs.of_taking.declared.Run.{Run}
use Rattle.returning.specs.of_taking.Hands.{Able, OpenMeets}
use Rattle.returning.specs.of_runners.Runs.{blocks_in_all}
use Rattle.returning.specs.of_resuming.declared.Waiting.{Waiting}
use Rattle.returning.specs.of_resuming.Engines.{running, remaining}
use Rattle.returning.specs.Standing.{task_for}
use Rattle.skipping.specs.declared.Passed.{Passed}

-- ---- after the blocks that were passed, and the step behind them
pub record PassMeets (tape : List ℕ) (table : List ℤ) (set : Settings) (places : List ℕ) (count : ℕ) (f : Frame) (r : Run) (p : Passed) : Type 0 where
  pub able : Able tape table set places count record_limit p.frame p.run
  pub opened : OpenMeets tape table set places count record_limit p.frame p.run p.opened
  pub program : p.frame.program ≡ f.program
  pub calls : p.frame.calls_left ≡ f.calls_left
  pub left : p.run.blocks_left ≤ r.blocks_left
  pub same : (first : ℕ) → Finds (take count places) tape first → FoundAt tape first f.program → r.blocks_left ≤ blocks_in_all → (fs : List Waiting)
      → remaining (task_for tape table set first) (running [] f.calls_left f.program p.frame.at fs p.run)
      ≡ remaining (task_for tape table set first) (running [] f.calls_left f.program f.at fs r)
