-- A promise of every block that is done holds of every step of a run, in calls and repeats too; and the count of records goes with the steps.
-- Assumes nothing.
use mathlib.Core.Path.{◌≡◌, sym, ap, subst}
use mathlib.Core.List.{List, [], ◌∷◌}
use Prim.Native.Nat.{ℕ, ◌+◌, ◌-◌}
use native.Mathlib.Omega.{arith}
use lib.ListN.{length, length-append}
use Rattle.moves.specs.declared.Record.{Record}
use Rattle.block.specs.declared.Block.{Block}
use Rattle.state.specs.declared.State.{State}
use Rattle.interpreter.specs.of_verdicts.Verdicts.{alarm_in}
use Rattle.interpreter.specs.of_machine.Blocks.{done_records}
use Rattle.ahead.specs.Ahead.{onto}
use Rattle.interpreter.specs.of_taking.Steps.{Task, Step, block_on, run_after}
use Rattle.interpreter.specs.of_taking.declared.Run.{Run}
use Rattle.interpreter.specs.of_runners.Runs.{records_of}
use Rattle.demands.specs.Steps.{Done, Linked}
use Rattle.demands.specs.Demands.{Each}
use Rattle.demands.proofs.Linked.{free_own}

-- P is said of what a run is given, of the state before a block, of the block and of its records
module _ (P : Task → State → Block → List Record → Type 0)
    (kept : (t : Task) (s : State) (b : Block) (left : ℕ) → alarm_in t.table t.settings s b left ≡ 0 → P t s b (done_records t.table t.settings s b)) where
  -- one step that was done
  of_step : (t : Task) (r : Run) (st : Step) → Done t r st → P t st.before.state (block_on t.tape st.place) st.records
  of_step t r st d =
      let b = block_on t.tape st.place in
      let well = free_own t (onto d.frame st.place) r d.free in
      let holds = kept t r.state b (t.room - r.count) well in
      subst (λ (v : List Record). P t st.before.state b v) (sym d.wrote)
      (subst (λ (q : Run). P t q.state b (done_records t.table t.settings r.state b)) (sym d.begun) holds)

  pub every_step : (t : Task) (sts : List Step) (r s : Run) → Linked t r sts s → Each (λ st. P t st.before.state (block_on t.tape st.place) st.records) sts
  unfolding Linked Each
  every_step t [] r s l = tt
  every_step t (st ∷ sts) r s l = (of_step t r st l.0, every_step t sts (run_after t st.place r) s l.1)

-- the records written by the end are those before and those of the steps
pub counted : (t : Task) (sts : List Step) (r s : Run) → Linked t r sts s → s.count ≡ r.count + length (records_of sts)
unfolding Linked records_of run_after
counted t [] r s l = omega (arith, ap (λ (q : Run). q.count) l)
counted t (st ∷ sts) r s l =
    let rest = counted t sts (run_after t st.place r) s l.1 in
    omega (arith, rest, length-append st.records (records_of sts), ap length l.0.wrote)
