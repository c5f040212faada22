-- A run as it is worked out, program in program, is a walk from block to block: an induction over the fuel, the calls and the repeats.
-- Assumes nothing.
use mathlib.Core.Path.{◌≡◌, refl, sym, ap, subst, ◌∙◌}
use mathlib.Core.Bool.{Bool, true, false, cond, ◌||◌}
use mathlib.Core.List.{List, [], ◌∷◌, ◌++◌}
use Prim.Native.Nat.{ℕ, zero, suc, ◌+◌, ◌<◌, ◌≤◌}
use native.Mathlib.Omega.{arith}
use lib.Dec.{ltb, eqb}
use lib.ListN.{length}
use borrow.Author.Tests.{eqb-false}
use Rattle.alarms.specs.Numbers.{too_many_begun, too_deep, program_missing, wrong_end}
use Rattle.tape.specs.Lines.{line_at, lines}
use Rattle.settings.specs.Wrong.{highest_subroutine}
use Rattle.finding.specs.Finding.{find_program, block_of_program}
use Rattle.places.specs.declared.Found.{Found}
use Rattle.places.specs.declared.Found.TheVariants.{At, Nowhere}
use Rattle.requests.specs.Request.{request_of}
use Rattle.requests.specs.declared.Request.{Request}
use Rattle.requests.specs.declared.Request.TheVariants as asks
use Rattle.ahead.specs.Ahead.{most_calls, onto, called_at, jumped_to, looked_by, looked_up}
use Rattle.ahead.specs.declared.Frame.{Frame}
use Rattle.ahead.specs.declared.ProgramAt.{ProgramAt}
use Rattle.ahead.specs.declared.Onward.{Onward}
use Rattle.ahead.specs.declared.Onward.TheVariants.{On, Call, Jump, Return, End, Stop}
use Rattle.demands.specs.of_taking.Steps.{Task, Step, block_on, onward_by, onward_of, alarm_by, alarm_at, run_after}
use Rattle.demands.specs.of_taking.declared.Run.{Run}
use Rattle.demands.specs.of_runners.Runs.{Ran, pre, go_back, and_then, go_on, onward, blocks, blocks_in_all, enough, repeated, called, entry, program_run}
use Rattle.demands.specs.of_runners.declared.Ending.{Ending}
use Rattle.demands.specs.of_runners.declared.Ending.TheVariants.{Returned, Ended, Stopped}
use Rattle.demands.proofs.Linked.{free_asked}
use Rattle.alarmed.specs.Walking.{Open, opened, moved, runs, jumped, called as walks_into, goes_on, Standing, standing, step_at, Walk, stay, step, RunRefused, block, early}
use Rattle.alarmed.proofs.Blocks.{block_passes, block_refused}
use Rattle.alarmed.proofs.Taking.{by_taken, one_fewer, blocks_few, called_few}

pub walk_on : (t : Task) {a b c : Standing} {v w : List Step} → Walk t a v b → Walk t b w c → Walk t a (v ++ w) c
walk_on t stay k = k
walk_on t (step e p h) k = step e p (walk_on t h k)

-- a walk to an alarm
pub record Stops (t : Task) (s : Standing) (v : List Step) (q : Run) (alarm place : ℕ) : Type 0 where
  pub programs : List Open
  pub walk : Walk t s v (standing programs q)
  pub refused : RunRefused t (standing programs q) alarm place

-- what a run came to, by its ending: back to the programs around it, to the end, or to an alarm
abbrev pub CameTo : Task → Standing → List Open → List Step → Run → Ending → Type 0
CameTo t s back v q Returned = Walk t s v (standing back q)
CameTo t s back v q Ended = Walk t s v (standing [] q)
CameTo t s back v q (Stopped alarm place) = Stops t s v q alarm place

abbrev pub Walks : Task → List Open → List Open → Run → Ran → Type 0
Walks t os back r x = CameTo t (standing os r) back x.steps x.outcome.run x.outcome.ending

came_on : (t : Task) (s z : Standing) (back : List Open) (v w : List Step) (q : Run) (h : Ending) → Walk t s v z → CameTo t z back w q h → CameTo t s back (v ++ w) q h
came_on t s z back v w q Returned a c = walk_on t a c
came_on t s z back v w q Ended a c = walk_on t a c
came_on t s z back v w q (Stopped alarm place) a c = record { programs = c.programs; walk = walk_on t a c.walk; refused = c.refused }

walks_on : (t : Task) (os mid back : List Open) (r q : Run) (v : List Step) (x : Ran) → Walk t (standing os r) v (standing mid q) → Walks t mid back q x → Walks t os back r (pre v x)
unfolding pre
walks_on t os mid back r q v x a c = came_on t (standing os r) (standing mid q) back v x.steps x.outcome.run x.outcome.ending a c

walks_back : (t : Task) (os mid back : List Open) (r : Run) (x : Ran) (k : Run → Ran) (h : Ending) → x.outcome.ending ≡ h
    → CameTo t (standing os r) mid x.steps x.outcome.run h → (Walks t mid back x.outcome.run (k x.outcome.run)) → Walks t os back r (go_back h x k)
unfolding go_back
walks_back t os mid back r x k Returned e c f = walks_on t os mid back r x.outcome.run x.steps (k x.outcome.run) c f
walks_back t os mid back r x k Ended e c f = subst (CameTo t (standing os r) back x.steps x.outcome.run) (sym e) c
walks_back t os mid back r x k (Stopped alarm place) e c f = subst (CameTo t (standing os r) back x.steps x.outcome.run) (sym e) c

walks_then : (t : Task) (os mid back : List Open) (r : Run) (x : Ran) (k : Run → Ran) → Walks t os mid r x → Walks t mid back x.outcome.run (k x.outcome.run)
    → Walks t os back r (and_then x k)
unfolding and_then
walks_then t os mid back r x k c f = walks_back t os mid back r x k x.outcome.ending refl c f

-- ---- where a block leads that is not refused
-- the frame's program as it is open, to run so many times more
abbrev pub open_in : Frame → ℕ → Open
open_in f again = record { program = f.program; at = f.at; again = again }

module _ (t : Task) (f : Frame) (again : ℕ) (outer : List Open) (after : ℕ) where
  abbrev o : Open
  o = open_in f again

  -- the programs that are open after what is asked of the runner
  abbrev Leads : Onward → List Open → Type 0
  Leads On os = os ≡ moved o after ∷ outer
  Leads (Jump p) os = os ≡ moved o p ∷ outer
  Leads (Call p times) os = (os ≡ runs t p times (moved o after ∷ outer)) × (f.calls_left ≡ 0 → ⊥)
  Leads Return os = os ≡ runs t f.program again outer
  Leads End os = os ≡ []
  Leads (Stop alarm place) os = ⊥

  abbrev Fine : Onward → List Open → Type 0
  Fine w os = alarm_by w ≡ 0 → Leads w os

  either : (P : Onward → Type 0) (c : Bool) (x y : Onward) → (c ≡ true → P x) → (c ≡ false → P y) → P (cond c x y)
  either P true x y h k = h refl
  either P false x y h k = k refl

  refuses : (n place : ℕ) → (n ≡ 0 → ⊥) → alarm_by (Stop n place) ≡ 0 → ⊥
  unfolding alarm_by
  refuses n place some e = some e

  found_leads : (g : Found) (n times : ℕ) → Fine (called_at g n f times) (walks_into t g n times (moved o after ∷ outer))
  unfolding called_at walks_into
  found_leads Nowhere n times = refuses _ _ (λ e. omega (arith, e))
  found_leads (At p) n times =
      either (λ w. Fine w (runs t (record { number = n; line = p }) times (moved o after ∷ outer))) (eqb f.calls_left 0) (Stop too_deep f.at) (Call (record { number = n; line = p }) times) (λ _. refuses _ _ (λ e. omega (arith, e)))
      (λ e _. (refl, eqb-false f.calls_left 0 e))

  jump_leads : (g : Found) → Fine (jumped_to g f) (jumped g o outer)
  unfolding jumped_to jumped
  jump_leads Nowhere = refuses _ _ (λ e. omega (arith, e))
  jump_leads (At p) = λ _. refl

  looked_leads : (q : Request) → Fine (looked_up t.tape t.settings t.first f q) (goes_on t q after o outer)
  unfolding looked_up looked_by goes_on
  looked_leads asks.On = λ _. refl
  looked_leads (asks.Call n times) =
      let g = find_program n (lines t.tape t.first) in
      either (λ w. Fine w (walks_into t g n times (moved o after ∷ outer))) (ltb n t.settings.lowest_subroutine || ltb highest_subroutine n) (Stop program_missing f.at) (called_at g n f times)
      (λ _. refuses _ _ (λ e. omega (arith, e))) (λ _. found_leads g n times)
  looked_leads (asks.Jump n) = jump_leads (block_of_program n t.tape f.program.line)
  looked_leads asks.Return =
      either (λ w. Fine w (runs t f.program again outer)) (eqb f.calls_left most_calls) (Stop wrong_end f.at) Return (λ _. refuses _ _ (λ e. omega (arith, e))) (λ _ _. refl)
  looked_leads asks.End =
      either (λ w. Fine w []) (eqb f.calls_left most_calls) End (Stop wrong_end f.at) (λ _ _. refl) (λ _. refuses _ _ (λ e. omega (arith, e)))

  onward_leads : (r : Run) → Fine (onward_of t f r) (goes_on t (request_of (block_on t.tape f.at)) after o outer)
  unfolding onward_by
  onward_leads r =
      let q = request_of (block_on t.tape f.at) in
      either (λ w. Fine w (goes_on t q after o outer)) (eqb r.blocks_left 0) (Stop too_many_begun f.at) (looked_up t.tape t.settings t.first f q)
      (λ _. refuses _ _ (λ e. omega (arith, e))) (λ _. looked_leads q)

-- ---- the blocks of a program, with its calls
module _ (t : Task) (calls : ℕ) (call : ProgramAt → ℕ → Run → Ran) (call_few : (p : ProgramAt) (times n : ℕ) (r : Run) → r.blocks_left ≤ n → (call p times r).outcome.run.blocks_left ≤ n)
    (call_walks : (calls ≡ 0 → ⊥) → (p : ProgramAt) (times : ℕ) (back : List Open) → length back + calls ≡ suc most_calls → (r : Run) → r.blocks_left ≤ blocks_in_all
    → Walks t (runs t p times back) back r (call p times r)) where
  module _ (again : ℕ) (outer : List Open) (deep : length outer + calls ≡ most_calls) where
    -- after a step that was done
    went : (f : Frame) → f.calls_left ≡ calls → (left : ℕ) (k : ℕ → Run → Ran)
        → ((p : ℕ) (q : Run) → q.blocks_left ≤ left → Walks t (open_in (onto f p) again ∷ outer) (runs t f.program again outer) q (k p q))
        → (w : Onward) (os : List Open) (r q : Run) (after : ℕ) (st : Step) → q.blocks_left ≤ left → q.blocks_left ≤ blocks_in_all → Leads t f again outer after w os
        → Walk t (standing (open_in f again ∷ outer) r) (st ∷ []) (standing os q) → Walks t (open_in f again ∷ outer) (runs t f.program again outer) r (go_on call k w q after st)
    unfolding go_on
    went f same left k g On os r q after st few begun is a =
        walks_on t _ (open_in (onto f after) again ∷ outer) _ r q (st ∷ []) (k after q) (subst (λ (z : List Open). Walk t (standing (open_in f again ∷ outer) r) (st ∷ []) (standing z q)) is a) (g after q few)
    went f same left k g (Jump p) os r q after st few begun is a =
        walks_on t _ (open_in (onto f p) again ∷ outer) _ r q (st ∷ []) (k p q) (subst (λ (z : List Open). Walk t (standing (open_in f again ∷ outer) r) (st ∷ []) (standing z q)) is a) (g p q few)
    went f same left k g (Call p times) os r q after st few begun is a =
        let back = open_in (onto f after) again ∷ outer in
        let x = call p times q in
        walks_on t _ (runs t p times back) _ r q (st ∷ []) (and_then x (k after)) (subst (λ (z : List Open). Walk t (standing (open_in f again ∷ outer) r) (st ∷ []) (standing z q)) is.0 a)
        (walks_then t (runs t p times back) back (runs t f.program again outer) q x (k after)
        (call_walks (λ e. is.1 (same ∙ e)) p times back (omega (arith, deep)) q begun) (g after x.outcome.run (call_few p times left q few)))
    went f same left k g Return os r q after st few begun is a = subst (λ (z : List Open). Walk t (standing (open_in f again ∷ outer) r) (st ∷ []) (standing z q)) is a
    went f same left k g End os r q after st few begun is a = subst (λ (z : List Open). Walk t (standing (open_in f again ∷ outer) r) (st ∷ []) (standing z q)) is a
    went f same left k g (Stop alarm place) os r q after st few begun is a = absurd is

    -- a refused block, or none
    halted : (f : Frame) (k : ℕ → Run → Ran) (alarm place : ℕ) (r : Run) (after : ℕ) (st : Step) → RunRefused t (standing (open_in f again ∷ outer) r) alarm place
        → Walks t (open_in f again ∷ outer) (runs t f.program again outer) r (go_on call k (Stop alarm place) r after st)
    unfolding go_on
    halted f k alarm place r after st h = record { programs = open_in f again ∷ outer; walk = stay; refused = h }

    pub blocks_walk : (fuel : ℕ) (f : Frame) → f.calls_left ≡ calls → (r : Run) → r.blocks_left < fuel → r.blocks_left ≤ blocks_in_all
        → Walks t (open_in f again ∷ outer) (runs t f.program again outer) r (blocks call t fuel f r)
    unfolding blocks onward
    blocks_walk zero f same r lasts few = absurd (omega (arith, lasts))
    blocks_walk (suc fuel) f same r lasts few =
        let k : ℕ → Run → Ran = λ p s. blocks call t fuel (onto f p) s in
        let known : length outer + f.calls_left ≡ most_calls = ap (λ (n : ℕ). length outer + n) same ∙ deep in
        by_taken t f r (λ x. Walks t (open_in f again ∷ outer) (runs t f.program again outer) r (onward call k x)) (λ e. halted f k wrong_end f.program.line r _ _ (early e))
        (λ p e some. halted f k (alarm_at t (onto f p) r) p r _ _ (block e (block_refused t (onto f p) (length outer) known r some)))
        (λ p e free.
        let g = onto f p in
        let q = run_after t p r in
        let fewer = one_fewer t g r free in
        went f same q.blocks_left k (λ at s h. blocks_walk fuel (onto f at) same s (omega (arith, lasts, fewer, h)) (omega (arith, few, fewer, h))) (onward_of t g r) _ r q
        (line_at t.tape p).after (step_at t f.program p r) (omega arith) (omega (arith, few, fewer)) (onward_leads t g again outer (line_at t.tape p).after r (free_asked t g r free))
        (step e (block_passes t g (length outer) known r free) stay))

-- ---- repeats and calls
module _ (t : Task) (p : ProgramAt) (back : List Open) (one : Run → Ran) (one_few : (n : ℕ) (r : Run) → r.blocks_left ≤ n → (one r).outcome.run.blocks_left ≤ n)
    (one_walks : (again : ℕ) (r : Run) → r.blocks_left ≤ blocks_in_all → Walks t (opened t p again ∷ back) (runs t p again back) r (one r)) where
  repeated_walk : (times : ℕ) (r : Run) → r.blocks_left ≤ blocks_in_all → Walks t (runs t p times back) back r (repeated one times r)
  unfolding repeated runs
  repeated_walk zero r few = stay
  repeated_walk (suc times) r few =
      walks_then t _ (runs t p times back) back r (one r) (λ s. repeated one times s) (one_walks times r few) (repeated_walk times (one r).outcome.run (one_few blocks_in_all r few))

begun_enough : (n : ℕ) → n ≤ blocks_in_all → n < enough
unfolding enough
begun_enough n h = omega (arith, h)

called_walks : (t : Task) (c : ℕ) → (c ≡ 0 → ⊥) → (p : ProgramAt) (times : ℕ) (back : List Open) → length back + c ≡ suc most_calls → (r : Run) → r.blocks_left ≤ blocks_in_all
    → Walks t (runs t p times back) back r (called t c p times r)
unfolding called
called_walks t zero some p times back deep r few = absurd (some refl)
called_walks t (suc c) some p times back deep r few =
    let call : ProgramAt → ℕ → Run → Ran = λ q m u. called t c q m u in
    let one : Run → Ran = λ s. blocks call t enough (entry t p c) s in
    repeated_walk t p back one (λ n s h. blocks_few t call (λ q m k u h. called_few t c q m k u h) enough (entry t p c) n s h)
    (λ again s h. blocks_walk t c call (λ q m n u h. called_few t c q m n u h) (λ e q m os d u h. called_walks t c e q m os d u h) again back (omega (arith, deep)) enough (entry t p c) refl s
    (begun_enough s.blocks_left h) h) times r few

-- A PROGRAM'S RUN, the main one: from its beginning
pub program_walks : (t : Task) (p : ProgramAt) (r : Run) → r.blocks_left ≤ blocks_in_all → Walks t (opened t p 0 ∷ []) [] r (program_run t p most_calls r)
unfolding runs
program_walks t p r few =
    blocks_walk t most_calls (called t most_calls) (λ q m n u h. called_few t most_calls q m n u h) (λ e q m os d u h. called_walks t most_calls e q m os d u h) 0 [] refl enough (entry t p most_calls) refl r
    (begun_enough r.blocks_left few) few
