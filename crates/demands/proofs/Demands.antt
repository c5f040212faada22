-- Demand 3 and the promise of threads hold of every input.
-- Assumes nothing.
use mathlib.Core.Path.{◌≡◌, refl}
use mathlib.Core.Bool.{true, false}
use mathlib.Core.List.{List, [], ◌∷◌}
use Prim.Native.Nat.{ℕ, ◌+◌, ◌<◌}
use lib.IntN.{ℤ}
use lib.ListN.{length, take}
use Rattle.moves.specs.declared.Record.{Record}
use Rattle.block.specs.declared.Block.{Block}
use Rattle.settings.specs.Points.{with_points}
use Rattle.settings.specs.declared.Settings.{Settings}
use Rattle.state.specs.declared.State.{State}
use Rattle.turning.specs.Turned.{Turned}
use Rattle.threading.specs.Threaded.{Threaded}
use Rattle.interpreter.specs.of_verdicts.Verdicts.{alarm_in}
use Rattle.interpreter.specs.of_machine.Blocks.{done_records}
use Rattle.ahead.specs.Ahead.{most_calls}
use Rattle.ahead.specs.declared.ProgramAt.{ProgramAt}
use Rattle.interpreter.specs.of_taking.Steps.{Task, task_of, Step, block_on}
use Rattle.interpreter.specs.of_answers.Answers.{count_of, answer_by, start_of}
use Rattle.interpreter.specs.Answers.{Result, refused, result_of, main_at, interpretation}
use Rattle.interpreter.specs.of_runners.Runs.{program_run}
use Rattle.interpreter.specs.of_runners.declared.Ending.{Ending}
use Rattle.interpreter.specs.of_runners.declared.Ending.TheVariants.{Returned, Ended, Stopped}
use Rattle.demands.specs.Opens.{opens_turning, wanted_in, opens_threading, thread_in}
use Rattle.demands.specs.Demands.{Each, EachFrom, task, DemandThree, DemandThreeInBuffer, ThreadPromise, ThreadPromiseInBuffer}
use Rattle.demands.proofs.Buffers.{every_read}
use Rattle.demands.proofs.Cycles.{every_step}
use Rattle.demands.proofs.Linked.{program_leads}
use Rattle.demands.proofs.Opening.{block_turned}
use Rattle.demands.proofs.Threads.{block_threaded}
use Rattle.demands.proofs.Results.{every_result}

-- how many records an answer counts
pub count_by : (h : Ending) (n : ℕ) → count_of (answer_by h n) ≡ n
unfolding answer_by
count_by Ended n = refl
count_by (Stopped alarm place) n = refl
count_by Returned n = refl

-- ---- a promise P of every block that is done holds of every step of every run
module _ (P : Task → State → Block → List Record → Type 0)
    (kept : (t : Task) (s : State) (b : Block) (left : ℕ) → alarm_in t.table t.settings s b left ≡ 0 → P t s b (done_records t.table t.settings s b)) where
  pub record Shown (t : Task) (x : Result) : Type 0 where
    pub steps : Each (λ st. P t st.before.state (block_on t.tape st.place) st.records) x.steps

  none_shown : (t : Task) (alarm place : ℕ) → Shown t (refused alarm place)
  unfolding Each
  none_shown t alarm place = record { steps = tt }

  run_shown : (t : Task) (p : ProgramAt) → p.line < length t.tape → Shown t (result_of (program_run t p most_calls (start_of t.settings)))
  unfolding result_of
  run_shown t p on =
      let r = start_of t.settings in
      let x = program_run t p most_calls r in
      record { steps = every_step P kept t x.steps r x.outcome.run (program_leads t p most_calls r on).linked }

  pub every_run : (tape : List ℕ) (table : List ℤ) (set : Settings) (size bytes : ℕ) → Shown (task tape table set size bytes) (interpretation tape table set size bytes)
  every_run tape table set size bytes =
      every_result Shown tape table set size bytes (λ t alarm place _ _ _. none_shown t alarm place) (λ _ _ _ _ first end p on _. run_shown (task_of (take end tape) table (with_points false set) first bytes) (main_at set p) on)

-- what holds of each step holds of it otherwise said
pub each_from : {A B : Step → ℕ → Type 0} → ((st : Step) (k : ℕ) → A st k → B st k) → (k : ℕ) (sts : List Step) → EachFrom A k sts → EachFrom B k sts
unfolding EachFrom
each_from f k [] a = tt
each_from f k (st ∷ sts) a = (f st k a.0, each_from f (k + length st.records) sts a.1)

-- ---- the promise of a block: demand 3, and that of a thread
abbrev Turns : Task → State → Block → List Record → Type 0
Turns t s b rs = opens_turning b ≡ true → Turned (wanted_in t.table s b) rs

turns : (t : Task) (s : State) (b : Block) (left : ℕ) → alarm_in t.table t.settings s b left ≡ 0 → Turns t s b (done_records t.table t.settings s b)
turns t s b left well opens = block_turned t.table t.settings s b opens left well

abbrev Threads : Task → State → Block → List Record → Type 0
Threads t s b rs = opens_threading b ≡ true → Threaded (thread_in t.table t.settings s b) rs

threads : (t : Task) (s : State) (b : Block) (left : ℕ) → alarm_in t.table t.settings s b left ≡ 0 → Threads t s b (done_records t.table t.settings s b)
threads t s b left well opens = block_threaded t.table t.settings s b opens left well

-- ---- of every input
module _ (tape : List ℕ) (table : List ℤ) (set : Settings) (size : ℕ) where
  pub demand_three : (bytes : ℕ) → DemandThree tape table set size bytes
  demand_three bytes = (every_run Turns turns tape table set size bytes).steps

  pub thread_promise : (bytes : ℕ) → ThreadPromise tape table set size bytes
  thread_promise bytes = (every_run Threads threads tape table set size bytes).steps

  pub demand_three_in_buffer : (b : List ℕ) → DemandThreeInBuffer tape table set size b
  demand_three_in_buffer b =
      each_from (λ st k a opens. record { x = a.0.x; z = a.0.z; turned = a.1 opens }) 0 (interpretation tape table set size (length b)).steps (every_read Turns turns tape table set size b).steps

  pub thread_promise_in_buffer : (b : List ℕ) → ThreadPromiseInBuffer tape table set size b
  thread_promise_in_buffer b =
      each_from (λ st k a opens. record { stands = a.0; threaded = a.1 opens }) 0 (interpretation tape table set size (length b)).steps (every_read Threads threads tape table set size b).steps
