-- One step of a run by what comes of it: the program ends early, its next block is refused, or it is done. And no run gives back blocks that were begun.
-- Assumes nothing.
use mathlib.Core.Path.{◌≡◌, refl, sym, subst}
use mathlib.Core.List.{[]}
use Prim.Native.Nat.{ℕ, zero, suc, ◌<◌, ◌≤◌}
use native.Mathlib.Omega.{arith}
use Rattle.alarms.specs.Numbers.{wrong_end}
use Rattle.tape.specs.Lines.{text_at, lines}
use Rattle.finding.specs.Finding.{first_block}
use Rattle.places.specs.declared.Found.{Found}
use Rattle.places.specs.declared.Found.TheVariants.{At, Nowhere}
use Rattle.ahead.specs.Ahead.{onto}
use Rattle.ahead.specs.declared.Frame.{Frame}
use Rattle.ahead.specs.declared.ProgramAt.{ProgramAt}
use Rattle.ahead.specs.declared.Onward.{Onward}
use Rattle.ahead.specs.declared.Onward.TheVariants.{On, Call, Jump, Return, End, Stop}
use Rattle.demands.specs.of_taking.Steps.{Task, Step, block_on, onward_of, alarm_at, run_after, records_at, origin_at, Taken, taken_by, taken_from}
use Rattle.demands.specs.of_taking.declared.Run.{Run}
use Rattle.demands.proofs.of_taking.Stepping.{some_left}
use Rattle.demands.specs.of_runners.Runs.{Ran, pre, go_back, and_then, go_on, onward, blocks, enough, repeated, called, entry}
use Rattle.demands.specs.of_runners.declared.Ending.{Ending}
use Rattle.demands.specs.of_runners.declared.Ending.TheVariants.{Returned, Ended, Stopped}
use Rattle.demands.proofs.Linked.{free_asked, done_free, done_alarm, records_free}
use Rattle.alarmed.specs.Walking.{step_at}

-- ---- what comes of a step from the frame's place on
module _ (t : Task) (f : Frame) (r : Run) where
  abbrev pub early : Taken
  early = record { done = record { onward = Stop wrong_end f.program.line; run = r; after = f.at }; step = record { place = f.program.line; origin = origin_at t.tape (onto f f.program.line); before = r; records = [] } }

  abbrev pub refused_at : ℕ → Taken
  refused_at p =
      let g = onto f p in
      record { done = record { onward = Stop (alarm_at t g r) p; run = r; after = (text_at t.tape p).after }; step = record { place = p; origin = origin_at t.tape g; before = r; records = records_at t g r } }

  abbrev pub taken_at : ℕ → Taken
  taken_at p = record { done = record { onward = onward_of t (onto f p) r; run = run_after t p r; after = (text_at t.tape p).after }; step = step_at t f.program p r }

  module _ (P : Taken → Type 0) (ends : first_block (lines t.tape f.at) ≡ Nowhere → P early)
      (refuses : (p : ℕ) → first_block (lines t.tape f.at) ≡ At p → (alarm_at t (onto f p) r ≡ 0 → ⊥) → P (refused_at p))
      (takes : (p : ℕ) → first_block (lines t.tape f.at) ≡ At p → alarm_at t (onto f p) r ≡ 0 → P (taken_at p)) where
    by_alarm : (p : ℕ) → first_block (lines t.tape f.at) ≡ At p → (a : ℕ) → alarm_at t (onto f p) r ≡ a → P (taken_by t f r (At p))
    unfolding taken_by origin_at
    by_alarm p e zero h =
        let g = onto f p in
        let same : taken_by t f r (At p) ≡ taken_at p = λ i. record { done = done_free t g r h i; step = record { place = p; origin = origin_at t.tape g; before = r; records = records_free t g r h i } } in
        subst P (sym same) (takes p e h)
    by_alarm p e (suc a) h =
        let g = onto f p in
        let some : alarm_at t g r ≡ 0 → ⊥ = λ z. omega (arith, h, z) in
        let same : taken_by t f r (At p) ≡ refused_at p = λ i. record { done = done_alarm t g r some i; step = record { place = p; origin = origin_at t.tape g; before = r; records = records_at t g r } } in
        subst P (sym same) (refuses p e some)

    by_found : (g : Found) → first_block (lines t.tape f.at) ≡ g → P (taken_by t f r g)
    unfolding taken_by
    by_found (At p) e = by_alarm p e (alarm_at t (onto f p) r) refl
    by_found Nowhere e = ends e

    pub by_taken : P (taken_from t f r)
    unfolding taken_from
    by_taken = by_found (first_block (lines t.tape f.at)) refl

-- a block that was done leaves one fewer to begin
pub one_fewer : (t : Task) (f : Frame) (r : Run) → alarm_at t f r ≡ 0 → (run_after t f.at r).blocks_left < r.blocks_left
unfolding run_after
one_fewer t f r e = omega (arith, some_left t.tape t.settings t.first f r.blocks_left (block_on t.tape f.at) (free_asked t f r e))

-- ---- no more blocks are left after a run than before it
abbrev pub Few : ℕ → Ran → Type 0
Few n x = x.outcome.run.blocks_left ≤ n

back_few : (n : ℕ) (h : Ending) (x : Ran) (k : Run → Ran) → Few n x → ((q : Run) → q.blocks_left ≤ n → Few n (k q)) → Few n (go_back h x k)
unfolding go_back pre
back_few n Returned x k a f = f x.outcome.run a
back_few n Ended x k a f = a
back_few n (Stopped alarm place) x k a f = a

then_few : (n : ℕ) (x : Ran) (k : Run → Ran) → Few n x → ((q : Run) → q.blocks_left ≤ n → Few n (k q)) → Few n (and_then x k)
unfolding and_then
then_few n x k a f = back_few n x.outcome.ending x k a f

module _ (t : Task) (call : ProgramAt → ℕ → Run → Ran) (call_few : (p : ProgramAt) (times n : ℕ) (r : Run) → r.blocks_left ≤ n → Few n (call p times r)) where
  on_few : (n : ℕ) (k : ℕ → Run → Ran) → ((p : ℕ) (q : Run) → q.blocks_left ≤ n → Few n (k p q)) → (w : Onward) (q : Run) (after : ℕ) (st : Step) → q.blocks_left ≤ n
      → Few n (go_on call k w q after st)
  unfolding go_on pre
  on_few n k f On q after st a = f after q a
  on_few n k f (Jump p) q after st a = f p q a
  on_few n k f (Call p times) q after st a = then_few n (call p times q) (k after) (call_few p times n q a) (f after)
  on_few n k f Return q after st a = a
  on_few n k f End q after st a = a
  on_few n k f (Stop alarm place) q after st a = a

  pub blocks_few : (fuel : ℕ) (f : Frame) (n : ℕ) (r : Run) → r.blocks_left ≤ n → Few n (blocks call t fuel f r)
  unfolding blocks onward
  blocks_few zero f n r a = a
  blocks_few (suc fuel) f n r a =
      let k : ℕ → Run → Ran = λ p s. blocks call t fuel (onto f p) s in
      let go : (w : Onward) (q : Run) (after : ℕ) (st : Step) → q.blocks_left ≤ n → Few n (go_on call k w q after st) = on_few n k (λ p q h. blocks_few fuel (onto f p) n q h) in
      by_taken t f r (λ x. Few n (onward call k x)) (λ _. go _ r _ _ a) (λ p _ _. go _ r _ _ a)
      (λ p _ e. go _ (run_after t p r) _ _ (omega (arith, one_fewer t (onto f p) r e, a)))

repeated_few : (one : Run → Ran) → ((n : ℕ) (r : Run) → r.blocks_left ≤ n → Few n (one r)) → (times n : ℕ) (r : Run) → r.blocks_left ≤ n → Few n (repeated one times r)
unfolding repeated
repeated_few one h zero n r a = a
repeated_few one h (suc times) n r a = then_few n (one r) (λ s. repeated one times s) (h n r a) (λ q b. repeated_few one h times n q b)

pub called_few : (t : Task) (c : ℕ) (p : ProgramAt) (times n : ℕ) (r : Run) → r.blocks_left ≤ n → Few n (called t c p times r)
unfolding called
called_few t zero p times n r a = a
called_few t (suc c) p times n r a =
    repeated_few (λ s. blocks (λ q m u. called t c q m u) t enough (entry t p c) s)
    (λ m s b. blocks_few t (λ q m u. called t c q m u) (λ q m k u b. called_few t c q m k u b) enough (entry t p c) m s b) times n r a
