-- Blocks that are passed: what is left to hand out stays, and so does what a step asks for.
-- Assumes nothing.
use mathlib.Core.Path.{◌≡◌, refl, sym, ap, subst, ◌∙◌}
use mathlib.Core.List.{List, []}
use Prim.Native.Nat.{ℕ, ◌≤◌, ◌<◌}
use native.Mathlib.Omega.{arith}
use lib.IntN.{ℤ}
use lib.ListN.{length, take}
use Rattle.moves.specs.Form.{record_limit}
use Rattle.settings.specs.declared.Settings.{Settings}
use Rattle.finding.specs.Finds.{Finds}
use Rattle.ahead.specs.Ahead.{onto, FoundAt}
use Rattle.ahead.specs.declared.ProgramAt.{ProgramAt}
use Rattle.ahead.specs.declared.Frame.{Frame}
use Rattle.ahead.specs.declared.Onward.{Onward}
use Rattle.ahead.specs.declared.Onward.TheVariants.{On, Jump}
use Rattle.returning.specs.of_taking.Steps.{Task, Step, listed_by, taken_from}
use Rattle.returning.specs.of_taking.Hands.{in_hand, Able, Falls, Leads, Lawful, OpenMeets}
use Rattle.returning.specs.of_taking.declared.Run.{Run}
use Rattle.returning.specs.of_taking.declared.StepDone.{StepDone}
use Rattle.returning.specs.of_taking.declared.Hand.TheVariants.{Nothing}
use Rattle.returning.specs.of_taking.declared.Opened.{Opened}
use Rattle.returning.specs.of_runners.Runs.{blocks_in_all}
use Rattle.returning.specs.of_resuming.declared.Waiting.{Waiting}
use Rattle.returning.specs.of_resuming.Remains.{frame_at}
use Rattle.returning.specs.of_resuming.Handed.{Made}
use Rattle.returning.specs.of_resuming.Engines.{running, turn_by, turn, remaining}
use Rattle.returning.proofs.of_resuming.Turns.{turn_same}
use Rattle.returning.specs.Standing.{task_for}
use Rattle.returning.specs.Moving.{within_of}
use Rattle.returning.proofs.Going.{within_is}
use Rattle.returning.proofs.Keeping.{within_fits}
use Rattle.skipping.specs.Passed.{PassMeets}

-- ---- a step keeps what is left
module _ (t : Task) (program : ProgramAt) (calls at : ℕ) (r : Run) where
  abbrev here : Frame
  here = frame_at program calls at

  abbrev step : Step
  step = (taken_from t here r).step

  pub step_same : (d : StepDone) → d ≡ (taken_from t here r).done → r.blocks_left ≤ blocks_in_all → (fs : List Waiting)
      → remaining t (turn_by t calls program fs d.onward d.run d.after step) ≡ remaining t (running [] calls program at fs r)
  unfolding turn
  step_same d is few fs = ap (λ (x : StepDone). remaining t (turn_by t calls program fs x.onward x.run x.after step)) is ∙ turn_same t (running [] calls program at fs r) few refl refl

  -- one that has no records, and goes on in its program
  module _ (d : Opened) (none : in_hand d.hand ≡ []) (w : Lawful t here r d) (few : r.blocks_left ≤ blocks_in_all) (fs : List Waiting) where
    empty : listed_by step ≡ []
    empty = sym w.hand ∙ none

    abbrev Keeps : ℕ → Type 0
    Keeps p = remaining t (running [] calls program p fs d.done.run) ≡ remaining t (running [] calls program at fs r)

    by_turn : (v : Onward) → d.done.onward ≡ v → remaining t (turn_by t calls program fs v d.done.run d.done.after step) ≡ remaining t (running [] calls program at fs r)
    by_turn v e = ap (λ (x : Onward). remaining t (turn_by t calls program fs x d.done.run d.done.after step)) (sym e) ∙ step_same d.done w.done few fs

    pub on_same : d.done.onward ≡ On → Keeps d.done.after
    unfolding turn_by
    on_same e = ap (λ (l : List Made). remaining t (running l calls program d.done.after fs d.done.run)) (sym empty) ∙ by_turn On e

    pub jump_same : (p : ℕ) → d.done.onward ≡ Jump p → Keeps p
    unfolding turn_by
    jump_same p e = ap (λ (l : List Made). remaining t (running l calls program p fs d.done.run)) (sym empty) ∙ by_turn (Jump p) e

-- ---- along the blocks that are passed
pub record Passing (tape : List ℕ) (table : List ℤ) (set : Settings) (places : List ℕ) (count : ℕ) (f : Frame) (r : Run) (at : ℕ) (s : Run) : Type 0 where
  pub able : Able tape table set places count record_limit (onto f at) s
  pub left : s.blocks_left ≤ r.blocks_left
  pub same : (first : ℕ) → Finds (take count places) tape first → FoundAt tape first f.program → r.blocks_left ≤ blocks_in_all → (fs : List Waiting)
      → remaining (task_for tape table set first) (running [] f.calls_left f.program at fs s)
      ≡ remaining (task_for tape table set first) (running [] f.calls_left f.program f.at fs r)

module _ (tape : List ℕ) (table : List ℤ) (set : Settings) (places : List ℕ) (count : ℕ) (f : Frame) (r : Run) where
  pub pass_first : Able tape table set places count record_limit f r → Passing tape table set places count f r f.at r
  pass_first a =
      record {
        able = record { offsets = a.offsets; range = a.range; filled = a.filled; limit = a.limit; state = a.state; few = a.few; here = a.here };
        left = omega arith;
        same = λ first finds there few fs. refl;
      }

  module _ (at : ℕ) (s : Run) (k : Passing tape table set places count f r at s) where
    abbrev Opens : Opened → Type 0
    Opens d = OpenMeets tape table set places count record_limit (onto f at) s d

    module _ (d : StepDone) (o : Opens (record { done = d; hand = Nothing })) where
      abbrev opened : Opened
      opened = record { done = d; hand = Nothing }

      further : (p : ℕ) → p ≤ length tape → d.run.blocks_left < s.blocks_left
          → ((first : ℕ) → Finds (take count places) tape first → FoundAt tape first f.program → s.blocks_left ≤ blocks_in_all → (fs : List Waiting)
          → remaining (task_for tape table set first) (running [] f.calls_left f.program p fs d.run)
          ≡ remaining (task_for tape table set first) (running [] f.calls_left f.program at fs s))
          → Passing tape table set places count f r p d.run
      further p h less same =
          let a = k.able in
          record {
            able = record { offsets = a.offsets; range = a.range; filled = a.filled; limit = a.limit; state = o.state; few = o.few; here = h };
            left = omega (arith, less, k.left);
            same = λ first finds there few fs. same first finds there (omega (arith, few, k.left)) fs ∙ k.same first finds there few fs;
          }

      falls : (v : Onward) → d.onward ≡ v → Falls v s d.run
      falls v e = subst (λ (x : Onward). Falls x s d.run) e o.left

      none : in_hand opened.hand ≡ []
      unfolding in_hand
      none = refl

      pub pass_on : d.onward ≡ On → Passing tape table set places count f r d.after d.run
      pass_on e =
          further d.after o.after (falls On e)
          (λ first finds there few fs. on_same (task_for tape table set first) f.program f.calls_left at s opened none (o.lawful first finds there) few fs e)

      pub pass_jump : (p : ℕ) → d.onward ≡ Jump p → Passing tape table set places count f r (within_of (length tape) p) d.run
      pass_jump p e =
          further (within_of (length tape) p) (within_fits (length tape) p) (falls (Jump p) e)
          (λ first finds there few fs.
          let on_it : p ≤ length tape = subst (Leads tape first) e (o.lawful first finds there).goes in
          ap (λ (x : ℕ). remaining (task_for tape table set first) (running [] f.calls_left f.program x fs d.run)) (within_is (length tape) p on_it)
          ∙ jump_same (task_for tape table set first) f.program f.calls_left at s opened none (o.lawful first finds there) few fs p e)

    -- the step behind them
    pub passed : (x : Frame) → x ≡ onto f at → (d : Opened) → OpenMeets tape table set places count record_limit x s d → PassMeets tape table set places count f r (record { frame = x; run = s; opened = d })
    passed x is d o =
        record {
          able = subst (λ (y : Frame). Able tape table set places count record_limit y s) (sym is) k.able;
          opened = o;
          program = ap (λ (y : Frame). y.program) is;
          calls = ap (λ (y : Frame). y.calls_left) is;
          left = k.left;
          same = λ first finds there few fs.
              ap (λ (y : Frame). remaining (task_for tape table set first) (running [] f.calls_left f.program y.at fs s)) is ∙ k.same first finds there few fs;
        }
