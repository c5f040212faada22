-- Nothing but the answer stands on what was judged and done: a walk goes one way, and an order has one first row.
-- Assumes nothing.
use mathlib.Core.Path.{◌≡◌, refl, sym, ap, subst, ◌∙◌}
use mathlib.Core.Bool.{Bool, cond}
use mathlib.Core.List.{List, [], ◌∷◌, ◌++◌, append-nil}
use Prim.Native.Nat.{ℕ, zero, suc, ◌+◌}
use native.Mathlib.Omega.{arith}
use lib.Dec.{eqb}
use lib.ListN.{length}
use borrow.Author.Tests.{eq-eqb, ne_eqb, not-true, not-false}
use Rattle.alarms.specs.Numbers.{wrong_end}
use Rattle.tape.specs.Lines.{opens_tape, lines}
use Rattle.block.specs.Slots.{any_of}
use Rattle.reading.specs.Reading.{nothing_read}
use Rattle.reading.specs.Filling.{nothing_filled, read_with}
use Rattle.reading.specs.declared.Read.{Read}
use Rattle.reading.specs.declared.Read.TheVariants as read
use Rattle.finding.specs.Finding.{first_block}
use Rattle.places.specs.declared.Found.{Found}
use Rattle.places.specs.declared.Found.TheVariants.{At, Nowhere}
use Rattle.ahead.specs.Ahead.{most_calls}
use Rattle.demands.specs.of_taking.Steps.{Task, Step}
use Rattle.demands.specs.of_taking.declared.Run.{Run}
use Rattle.demands.specs.of_runners.Runs.{Ran, program_run}
use Rattle.demands.specs.of_runners.declared.Ending.{Ending}
use Rattle.demands.specs.of_runners.declared.Ending.TheVariants.{Returned, Ended, Stopped}
use Rattle.demands.specs.of_answers.Answers.{answer_by, start_of}
use Rattle.demands.specs.of_answers.declared.Answer.{Answer}
use Rattle.demands.specs.of_answers.declared.Answer.TheVariants.{Complete, Alarm}
use Rattle.demands.specs.of_interpreter.Answers.{Result, refused, result_of, main_at, main_by, main_run, read_then, interpretation_by, interpretation}
use Rattle.alarmed.specs.Order.{Passes, none, no, Refused, yes, later}
use Rattle.alarmed.specs.Tests.{Input, settings_bad, too_long, too_short, unopened, input_order, block_order}
use Rattle.alarmed.specs.Walking.{Open, Standing, standing, begun, after, step_at, Walk, stay, step, RunRefused, block, early}
use Rattle.alarmed.specs.Alarmed.{first_of, lines_of, LineRefused, refuses, ReadTo, all, ended, task_to, main_in, begins, Stands, input, line, main, run, list, Free, IsComplete, answered, AlarmsStand}
use Rattle.alarmed.proofs.Orders.{first, Above, passes_first, refused_first, refused_some}
use Rattle.alarmed.proofs.Lines.{read_from, accepted_all, reached_ended, reached_refused}
use Rattle.alarmed.proofs.Blocks.{above}
use Rattle.alarmed.proofs.Never.{never_returns}
use Rattle.alarmed.proofs.Walks.{CameTo, program_walks}
use Rattle.alarmed.proofs.Alarmed.{opens, stands}

-- ---- a walk as a function: so many blocks from where the run stands, with the answer to which it comes
record Way : Type 0 where
  steps : List Step
  to : Answer

ahead : List Step → Way → Way
ahead v w = record { steps = v ++ w.steps; to = w.to }

there : Answer → Way
there a = record { steps = []; to = a }

abbrev at_block : (Standing → Way) → Task → Open → List Open → Run → ℕ → ℕ → Way
at_block k t o outer r p n = cond (eqb n 0) (ahead (step_at t o.program p r ∷ []) (k (after t o outer p r))) (there (Alarm n p r.count))

at_found : (Standing → Way) → Task → Open → List Open → Run → Found → Way
at_found k t o outer r Nowhere = there (Alarm wrong_end o.program.line r.count)
at_found k t o outer r (At p) = at_block k t o outer r p (first block_order (begun t o outer p r))

on_from : (Standing → Way) → Task → List Open → Run → Way
on_from k t [] r = there (Complete r.count)
on_from k t (o ∷ outer) r = at_found k t o outer r (first_block (lines t.tape o.at))

-- (the answer of a walk that is cut short is of no account)
way : ℕ → Task → Standing → Way
way zero t s = there (Complete 0)
way (suc n) t s = on_from (λ z. way n t z) t s.programs s.run

walk_way : (t : Task) {s z : Standing} {v : List Step} → Walk t s v z → (n : ℕ) → way (length v + n) t s ≡ ahead v (way n t z)
unfolding way ahead on_from at_found
walk_way t {s} stay n = let same : 0 + n ≡ n = omega arith in ap (λ (k : ℕ). way k t s) same
walk_way t (step {o} {outer} {r} {p} {v} e q h) n =
    let same : suc (length v) + n ≡ suc (length v + n) = omega arith in
    ap (λ (k : ℕ). way k t (standing (o ∷ outer) r)) same
    ∙ ap (at_found (λ z. way (length v + n) t z) t o outer r) e
    ∙ ap (λ (b : Bool). cond b (ahead (step_at t o.program p r ∷ []) (way (length v + n) t (after t o outer p r))) (there (Alarm (first block_order (begun t o outer p r)) p r.count)))
    (eq-eqb _ 0 (passes_first (begun t o outer p r) q))
    ∙ ap (ahead (step_at t o.program p r ∷ [])) (walk_way t h n)

-- where it comes to an alarm, or to the end
refused_way : (t : Task) {s : Standing} {alarm place : ℕ} → RunRefused t s alarm place → (n : ℕ) → way (suc n) t s ≡ there (Alarm alarm place s.run.count)
unfolding way on_from at_found
refused_way t (block {o} {outer} {r} {p} {n = m} e h) n =
    let x = begun t o outer p r in
    let is = refused_first x h in
    ap (at_found (λ z. way n t z) t o outer r) e
    ∙ ap (at_block (λ z. way n t z) t o outer r p) is
    ∙ ap (λ (b : Bool). cond b (ahead (step_at t o.program p r ∷ []) (way n t (after t o outer p r))) (there (Alarm m p r.count))) (ne_eqb m 0 (refused_some x above h))
refused_way t (early {o} {outer} {r} e) n = ap (at_found (λ z. way n t z) t o outer r) e

over_way : (t : Task) (s : Standing) → s.programs ≡ [] → (n : ℕ) → way (suc n) t s ≡ there (Complete s.run.count)
unfolding way on_from
over_way t s e n = ap (λ (os : List Open). on_from (λ z. way n t z) t os s.run) e

-- a walk that came to an answer
record To (t : Task) (s : Standing) (a : Answer) (v : List Step) : Type 0 where
  is : (n : ℕ) → way (length v + suc n) t s ≡ record { steps = v; to = a }

to_by_lem : (t : Task) {s z : Standing} {v : List Step} (a : Answer) → Walk t s v z → ((n : ℕ) → way (suc n) t z ≡ there a) → To t s a v
unfolding ahead there
to_by_lem t {v = v} a w e = record { is = λ n. walk_way t w (suc n) ∙ ap (ahead v) (e n) ∙ (λ i. record { steps = append-nil v i; to = a }) }

refused_to : (t : Task) {s z : Standing} {v : List Step} {alarm place : ℕ} → Walk t s v z → RunRefused t z alarm place → To t s (Alarm alarm place z.run.count) v
refused_to t w h = to_by_lem t _ w (refused_way t h)

over_to : (t : Task) {s z : Standing} {v : List Step} → Walk t s v z → z.programs ≡ [] → To t s (Complete z.run.count) v
over_to t {z = z} w e = to_by_lem t _ w (over_way t z e)

-- two of them are one
abbrev Same : Answer → List Step → Result → Type 0
Same a v x = (a ≡ x.answer) × (v ≡ x.steps)

one_way : (t : Task) (s : Standing) {a b : Answer} {v w : List Step} → To t s a v → To t s b w → (a ≡ b) × (v ≡ w)
one_way t s {a} {b} {v} {w} h k =
    let same : length w + suc (length v) ≡ length v + suc (length w) = omega arith in
    let left : Way = record { steps = v; to = a } in
    let right : Way = record { steps = w; to = b } in
    let both : left ≡ right = sym (h.is (length w)) ∙ ap (λ (n : ℕ). way n t s) (sym same) ∙ k.is (length v) in
    (ap (λ (x : Way). x.to) both, ap (λ (x : Way). x.steps) both)

above_input : Above input_order
above_input = refl

-- ---- every answer
module _ (i : Input) where
  abbrev lines_read : Read
  lines_read = (read_from i (first_of i.tape) (length i.tape) nothing_read nothing_filled (lines_of i.tape)).read

  abbrev then : Read → Result
  then r = read_then i.tape i.table i.settings i.bytes r

  begun_reading : Passes i input_order → answered i ≡ then lines_read
  unfolding interpretation interpretation_by settings_bad too_long too_short unopened read_with
  begun_reading (no a (no b (no c (no d none)))) = rw (a, b, c, opens i.tape ∙ not-false (any_of opens_tape i.tape) d) refl

  early_alarm : {n : ℕ} → Refused i n input_order → answered i ≡ refused n 0
  unfolding interpretation interpretation_by settings_bad too_long too_short unopened read_with read_then
  early_alarm (yes a h) = rw a (ap (λ (m : ℕ). refused m 0) (sym h))
  early_alarm (later a (yes b h)) = rw (a, b) (ap (λ (m : ℕ). refused m 0) (sym h))
  early_alarm (later a (later b (yes c h))) = rw (a, b, c) (ap (λ (m : ℕ). refused m 0) (sym h))
  early_alarm (later a (later b (later c (yes d h)))) = rw (a, b, c, opens i.tape ∙ not-true (any_of opens_tape i.tape) d) (ap (λ (m : ℕ). refused m 0) (sym h))
  early_alarm (later a (later b (later c (later _ h)))) = elim h [ ]

  read_to : {end : ℕ} → ReadTo i end → lines_read ≡ read.Whole (first_of i.tape) end
  read_to (all a) = accepted_all i (first_of i.tape) (length i.tape) nothing_filled refl a
  read_to (ended c p l) = reached_ended i (first_of i.tape) (length i.tape) nothing_filled refl c p l

  line_alarm_lem : {n place : ℕ} → LineRefused i n place → lines_read ≡ read.Alarm n place
  line_alarm_lem (refuses c r) = reached_refused i (first_of i.tape) (length i.tape) nothing_filled refl c r

  refused_here : {n place : ℕ} → Passes i input_order → LineRefused i n place → answered i ≡ refused n place
  unfolding read_then
  refused_here p r = begun_reading p ∙ ap then (line_alarm_lem r)

  main_here : {end : ℕ} {g : Found} → Passes i input_order → ReadTo i end → main_in i end ≡ g → answered i ≡ main_by (task_to i end) g
  unfolding read_then main_run
  main_here {end} p r e = begun_reading p ∙ ap then (read_to r) ∙ ap (main_by (task_to i end)) e

  -- the run, as it was worked out, comes to one answer
  module _ (end p : ℕ) where
    abbrev t : Task
    t = task_to i end

    abbrev x : Ran
    x = program_run t (main_at i.settings p) most_calls (start_of i.settings)

    by_ending : (h : Ending) → x.outcome.ending ≡ h → CameTo t (begins i end p) [] x.steps x.outcome.run h → To t (begins i end p) (answer_by h x.outcome.run.count) x.steps
    unfolding answer_by
    by_ending Returned e c = absurd (never_returns t (main_at i.settings p) (start_of i.settings) e)
    by_ending Ended e c = over_to t c refl
    by_ending (Stopped alarm place) e c = refused_to t c.walk c.refused

    worked_out : To t (begins i end p) (result_of x).answer (result_of x).steps
    unfolding result_of
    worked_out = by_ending x.outcome.ending refl (program_walks t (main_at i.settings p) (start_of i.settings) (omega arith))

    run_alone : {a : Answer} {v : List Step} → answered i ≡ main_by t (At p) → To t (begins i end p) a v → Same a v (answered i)
    unfolding main_by
    run_alone {a} {v} e h = subst (Same a v) (sym e) (one_way t (begins i end p) h worked_out)

  alone : (a : Answer) (v : List Step) → Stands i a v → Same a v (answered i)
  unfolding main_by
  alone a v (input r) = subst (Same a v) (sym (early_alarm r)) (refl, refl)
  alone a v (line p r) = subst (Same a v) (sym (refused_here p r)) (refl, refl)
  alone a v (main p r e) = subst (Same a v) (sym (main_here p r e)) (refl, refl)
  alone a v (run {end} {p = q} p r e w h) = run_alone end q (main_here p r e) (refused_to (task_to i end) w h)
  alone a v (list {end} {p = q} p r e w h) = run_alone end q (main_here p r e) (over_to (task_to i end) w h)

  -- ---- where nothing refuses there is a list
  no_alarm : (a : Answer) (v : List Step) → Stands i a v → Free i → IsComplete a
  no_alarm a v (input r) f = refused_some i above_input r (sym (refused_first i r) ∙ passes_first i f.passes)
  no_alarm a v (line {n} {place} p r) f = f.no_line n place r
  no_alarm a v (main {end} p r e) f = f.main_there end r e
  no_alarm a v (run {end} {p = q} {n} {place} {s = s} p r e w h) f = f.no_block end q n place v s r e w h
  no_alarm a v (list p r e w h) f = tt

  pub alarms_stand : AlarmsStand i
  alarms_stand = record { stands = stands i; alone = alone; listed = no_alarm (answered i).answer (answered i).steps (stands i) }
