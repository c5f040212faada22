-- The steps of a run are a chain. This is the only induction over the fuel, the calls, the repeats and the returns.
-- Assumes nothing.
use mathlib.Core.Path.{◌≡◌, refl, sym, ap, ◌∙◌, subst}
use mathlib.Core.Bool.{Bool, false, cond}
use mathlib.Core.List.{List, [], ◌∷◌, ◌++◌}
use Prim.Native.Nat.{ℕ, zero, suc, ◌-◌, ◌<◌}
use native.Mathlib.Omega.{arith}
use lib.Dec.{eqb}
use lib.ListN.{length}
use borrow.Author.Tests.{eq-eqb, ne_eqb}
use Rattle.alarms.specs.Given.{IsAlarm}
use Rattle.alarms.proofs.Above.{alarm_above}
use Rattle.tape.specs.Lines.{line_at, text_at, lines}
use Rattle.places.specs.declared.Found.{Found}
use Rattle.places.specs.declared.Found.TheVariants.{At, Nowhere}
use Rattle.interpreter.specs.of_verdicts.Verdicts.{alarm_in}
use Rattle.interpreter.specs.of_machine.Blocks.{done_records}
use Rattle.finding.specs.Finding.{first_block}
use Rattle.interpreter.specs.of_taking.Steps.{Task, Step, block_on, onward_of, alarm_by, alarm_at, run_after, done_at, records_at, origin_at, taken_by, taken_from}
use Rattle.ahead.specs.declared.ProgramAt.{ProgramAt}
use Rattle.ahead.specs.declared.Frame.{Frame}
use Rattle.ahead.specs.declared.Onward.{Onward}
use Rattle.ahead.specs.declared.Onward.TheVariants.{On, Call, Jump, Return, End, Stop}
use Rattle.interpreter.specs.of_taking.declared.StepDone.{StepDone}
use Rattle.interpreter.specs.of_taking.declared.Run.{Run}
use Rattle.ahead.proofs.Places.{FoundIn, first_on, OnwardOn}
use Rattle.interpreter.proofs.of_taking.Stepping.{onward_on}
use Rattle.interpreter.specs.of_runners.Runs.{Ran, ran, pre, go_back, and_then, go_on, onward, blocks, enough, repeated, called, entry, program_run}
use Rattle.interpreter.specs.of_runners.declared.Ending.{Ending}
use Rattle.interpreter.specs.of_runners.declared.Ending.TheVariants.{Returned, Ended, Stopped}
use Rattle.demands.specs.Steps.{Done, Linked}
use Rattle.demands.proofs.Named.{given_above, block_named}

-- ---- the block at a place
module _ (t : Task) (g : Frame) (r : Run) where
  abbrev own : ℕ
  own = alarm_in t.table t.settings r.state (block_on t.tape g.at) (t.room - r.count)

  abbrev asked : ℕ
  asked = alarm_by (onward_of t g r)

  none_asked : (a : ℕ) → cond (eqb a 0) own a ≡ 0 → a ≡ 0
  none_asked zero h = refl
  none_asked (suc a) h = absurd (omega (arith, ap (λ (b : Bool). cond b own (suc a)) (sym (ne_eqb (suc a) 0 (λ z. omega (arith, z)))) ∙ h))

  pub free_asked : alarm_at t g r ≡ 0 → asked ≡ 0
  unfolding alarm_at
  free_asked e = none_asked asked e

  pub free_own : alarm_at t g r ≡ 0 → own ≡ 0
  unfolding alarm_at
  free_own e = ap (λ (b : Bool). cond b own asked) (sym (eq-eqb asked 0 (none_asked asked e))) ∙ e

  abbrev pub after : ℕ
  after = (text_at t.tape g.at).after

  abbrev pub step : Step
  step = record { place = g.at; origin = origin_at t.tape g; before = r; records = records_at t g r }

  pub done_free : alarm_at t g r ≡ 0 → done_at t g r ≡ record { onward = onward_of t g r; run = run_after t g.at r; after = after }
  unfolding done_at
  done_free e = rw (eq-eqb (alarm_at t g r) 0 e) refl

  pub done_alarm : (alarm_at t g r ≡ 0 → ⊥) → done_at t g r ≡ record { onward = Stop (alarm_at t g r) g.at; run = r; after = after }
  unfolding done_at
  done_alarm e = rw (ne_eqb (alarm_at t g r) 0 e) refl

  pub records_free : alarm_at t g r ≡ 0 → records_at t g r ≡ done_records t.table t.settings r.state (block_on t.tape g.at)
  unfolding records_at
  records_free e = rw (eq-eqb (alarm_at t g r) 0 e) refl

-- ---- chains
pub linked_append : (t : Task) (v w : List Step) (r q s : Run) → Linked t r v q → Linked t q w s → Linked t r (v ++ w) s
unfolding Linked
linked_append t [] w r q s h k = subst (λ (x : Run). Linked t x w s) (sym h) k
linked_append t (st ∷ v) w r q s h k = (h.0, linked_append t v w (run_after t st.place r) q s h.1 k)

-- an alarm that stops a run is one of those that are given whatever the settings are, and has its place on the tape
abbrev pub StopsOn : ℕ → Ending → Type 0
StopsOn n (Stopped alarm place) = IsAlarm false alarm × (place < n)
StopsOn n Returned = Unit {0}
StopsOn n Ended = Unit {0}

-- a run whose steps lead from r to where it ended
pub record Leads (t : Task) (r : Run) (x : Ran) : Type 0 where
  pub linked : Linked t r x.steps x.outcome.run
  pub stops : StopsOn (length t.tape) x.outcome.ending

-- a run that takes no step
none_taken : (t : Task) (h : Ending) (r : Run) → StopsOn (length t.tape) h → Leads t r (ran h r [])
unfolding Linked
none_taken t h r s = record { linked = refl; stops = s }

leads_pre : (t : Task) (v : List Step) (x : Ran) (r q : Run) → Linked t r v q → Leads t q x → Leads t r (pre v x)
unfolding pre
leads_pre t v x r q h k = record { linked = linked_append t v x.steps r q x.outcome.run h k.linked; stops = k.stops }

leads_back : (t : Task) (h : Ending) (x : Ran) (k : Run → Ran) (r : Run) → Leads t r x → ((q : Run) → Leads t q (k q)) → Leads t r (go_back h x k)
unfolding go_back
leads_back t Returned x k r p f = leads_pre t x.steps (k x.outcome.run) r x.outcome.run p.linked (f x.outcome.run)
leads_back t Ended x k r p f = p
leads_back t (Stopped alarm place) x k r p f = p

leads_then : (t : Task) (x : Ran) (k : Run → Ran) (r : Run) → Leads t r x → ((q : Run) → Leads t q (k q)) → Leads t r (and_then x k)
unfolding and_then
leads_then t x k r p f = leads_back t x.outcome.ending x k r p f

module _ (t : Task) (program : ProgramAt) (calls : ℕ) (line : program.line < length t.tape) (call : ProgramAt → ℕ → Run → Ran)
    (call_leads : (p : ProgramAt) (n : ℕ) (r : Run) → p.line < length t.tape → Leads t r (call p n r)) where
  -- the program's frame at a place
  abbrev on : ℕ → Frame
  on at = record { program = program; calls_left = calls; at = at }

  -- ---- what is asked of the runner after a step that was taken
  one : (r q : Run) (st : Step) → Done t r st → run_after t st.place r ≡ q → Linked t r (st ∷ []) q
  unfolding Linked
  one r q st d e = (d, e)

  went : (k : ℕ → Run → Ran) → ((p : ℕ) (q : Run) → Leads t q (k p q)) → (w : Onward) (r q : Run) (after : ℕ) (st : Step)
      → alarm_by w ≡ 0 → OnwardOn (length t.tape) w → Linked t r (st ∷ []) q → Leads t r (go_on call k w q after st)
  unfolding go_on alarm_by
  went k f On r q after st none goes l = leads_pre t (st ∷ []) (k after q) r q l (f after q)
  went k f (Jump p) r q after st none goes l = leads_pre t (st ∷ []) (k p q) r q l (f p q)
  went k f (Call p n) r q after st none goes l =
      leads_pre t (st ∷ []) (and_then (call p n q) (k after)) r q l (leads_then t (call p n q) (k after) q (call_leads p n q goes) (f after))
  went k f Return r q after st none goes l = record { linked = l; stops = tt }
  went k f End r q after st none goes l = record { linked = l; stops = tt }
  went k f (Stop alarm place) r q after st none goes l = absurd (alarm_above false alarm goes none)

  -- a refused block is no step
  stopped : (k : ℕ → Run → Ran) (r : Run) (alarm place after : ℕ) (st : Step) → StopsOn (length t.tape) (Stopped alarm place)
      → Leads t r (go_on call k (Stop alarm place) r after st)
  unfolding go_on
  stopped k r alarm place after st s = none_taken t (Stopped alarm place) r s

  -- ---- the block at a place
  module _ (at : ℕ) (here : at < length t.tape) (r : Run) (k : ℕ → Run → Ran) (f : (p : ℕ) (q : Run) → Leads t q (k p q)) where
    abbrev next : ℕ
    next = after t (on at) r

    abbrev this : Step
    this = step t (on at) r

    by_done : {d : StepDone} → done_at t (on at) r ≡ d → Leads t r (go_on call k d.onward d.run d.after this)
        → Leads t r (go_on call k (done_at t (on at) r).onward (done_at t (on at) r).run (done_at t (on at) r).after this)
    by_done e l = subst (λ (d : StepDone). Leads t r (go_on call k d.onward d.run d.after this)) (sym e) l

    by_alarm : (a : ℕ) → alarm_at t (on at) r ≡ a → Leads t r (go_on call k (done_at t (on at) r).onward (done_at t (on at) r).run (done_at t (on at) r).after this)
    by_alarm zero e =
        by_done (done_free t (on at) r e)
        (went k f (onward_of t (on at) r) r (run_after t at r) next this (free_asked t (on at) r e)
        (onward_on t.tape t.settings t.first (on at) r.blocks_left (block_on t.tape at))
        (one r (run_after t at r) this (record { frame = on at; begun = refl; free = e; wrote = records_free t (on at) r e }) refl))
    by_alarm (suc a) e =
        by_done (done_alarm t (on at) r (λ z. omega (arith, e, z)))
        (stopped k r (alarm_at t (on at) r) at next this (given_above false (alarm_at t (on at) r) (block_named t (on at) r) (λ z. omega (arith, e, z)), here))

  -- ---- a step from a place on
  module _ (k : ℕ → Run → Ran) (f : (p : ℕ) (q : Run) → Leads t q (k p q)) where
    by_found : (from : ℕ) (r : Run) (g : Found) → FoundIn (length t.tape) g → Leads t r (onward call k (taken_by t (on from) r g))
    unfolding onward taken_by
    by_found from r (At p) here = by_alarm p here r k f (alarm_at t (on p) r) refl
    by_found from r Nowhere here = stopped k r _ program.line from _ (refl, line)

    from_leads : (from : ℕ) (r : Run) → Leads t r (onward call k (taken_from t (on from) r))
    unfolding taken_from
    from_leads from r = by_found from r (first_block (lines t.tape from)) (first_on t.tape from)

  pub blocks_lead : (f from : ℕ) (r : Run) → Leads t r (blocks call t f (on from) r)
  unfolding blocks
  blocks_lead zero from r = none_taken t _ r (refl, line)
  blocks_lead (suc f) from r = from_leads (λ p s. blocks call t f (on p) s) (λ p s. blocks_lead f p s) from r

-- ---- calls and repeats
repeated_leads : (t : Task) (one : Run → Ran) → ((r : Run) → Leads t r (one r)) → (n : ℕ) (r : Run) → Leads t r (repeated one n r)
unfolding repeated
repeated_leads t one h zero r = none_taken t Returned r tt
repeated_leads t one h (suc n) r = leads_then t (one r) (λ s. repeated one n s) r (h r) (λ q. repeated_leads t one h n q)

called_leads : (t : Task) (c : ℕ) (p : ProgramAt) (n : ℕ) (r : Run) → p.line < length t.tape → Leads t r (called t c p n r)
unfolding called
called_leads t zero p n r line = none_taken t _ r (refl, line)
called_leads t (suc c) p n r line =
    repeated_leads t (λ s. blocks (λ q m u. called t c q m u) t enough (entry t p c) s)
    (λ s. blocks_lead t p c line (λ q m u. called t c q m u) (λ q m u on. called_leads t c q m u on) enough (line_at t.tape p.line).after s) n r

-- THE STEPS OF A PROGRAM'S RUN lead from where it began to where it ended, and an alarm that stops it has its place on the tape
pub program_leads : (t : Task) (p : ProgramAt) (c : ℕ) (r : Run) → p.line < length t.tape → Leads t r (program_run t p c r)
program_leads t p c r line = blocks_lead t p c line (called t c) (λ q m u on. called_leads t c q m u on) enough (line_at t.tape p.line).after r
