-- Laws of the door: which of its two ways an input takes, the demands of every input, and that place and count of every answer have 16 bits.
-- Assumes nothing.
use mathlib.Core.Path.{◌≡◌, refl, sym, ◌∙◌, subst}
use mathlib.Core.Bool.{Bool, true, false, cond}
use mathlib.Core.List.{List, []}
use Prim.Native.Nat.{ℕ}
use native.Mathlib.Omega.{arith}
use lib.IntN.{ℤ}
use lib.ListN.{length}
use Rattle.alarms.specs.Numbers.{bad_settings}
use Rattle.settings.specs.declared.Settings.{Settings}
use Rattle.alarmed.specs.of_interpreter.Answers.{Result, refused, interpretation, answer_of, places_of, buffer_of, laid_by}
use Rattle.alarmed.specs.of_taking.Steps.{Task}
use Rattle.alarmed.specs.of_answers.declared.Answer.{Answer}
use Rattle.alarmed.specs.of_answers.declared.Answer.TheVariants.{Alarm}
use Rattle.alarmed.proofs.of_interpreter.Whole.{none_begun}
use Rattle.alarmed.specs.of_demands.Demands.{Owed, OwedList, TableAfter, Each, EachFrom, EveryCycle, CutIn, Threads, ThreadsIn}
use Rattle.alarmed.specs.of_demands.Origins.{BlockNamed}
use Rattle.alarmed.specs.of_demands.Placed.{accepted_in}
use Rattle.alarmed.specs.of_demands.Strokes.{Deepens, DeepensIn}
use Rattle.alarmed.specs.of_demands.Arcs.{ArcsOwed, ArcsOwedIn, Rounds, RoundsIn}
use Rattle.alarmed.proofs.of_demands.Holding.{none_owed, all_owed, demand_two}
use Rattle.alarmed.proofs.of_demands.Placed.{none_after, table_after}
use Rattle.alarmed.proofs.of_demands.Demands.{demand_three, thread_promise, demand_three_in_buffer, thread_promise_in_buffer}
use Rattle.alarmed.proofs.of_demands.Strokes.{depth_law, depth_law_in_buffer}
use Rattle.alarmed.proofs.of_demands.Arcs.{none_owed as no-arcs, none_owed_in as no-arcs-in, arc_promise, arc_promise_in_buffer, arcs_written, arcs_written_in_buffer}
use Rattle.alarmed.proofs.of_demands.EveryBlock.{every_block_named}
use Rattle.alarmed.proofs.Alone.{alarms_stand}
use Rattle.panel.specs.Row.{unfit, settings_of}
use Rattle.board.specs.Door.{at_door, answer_at, places_at, buffer_at, accepted_at, DemandOneAtDoor, DemandTwoAtDoor, EveryBlockNamedAtDoor, input_at, AlarmsStandAtDoor, task_at, DemandThreeAtDoor, DemandThreeInBufferAtDoor, ThreadPromiseAtDoor, ThreadPromiseInBufferAtDoor, DepthLawAtDoor, DepthLawInBufferAtDoor, ArcPromiseAtDoor, ArcPromiseInBufferAtDoor, ArcsWrittenAtDoor, ArcsWrittenInBufferAtDoor}
use Rattle.onemove.specs.of_packing.Packing.{Packed, Fits}

-- ---- an answer, a table of places and a buffer, as the door gives them
module _ (tape : List ℕ) (table numbers : List ℤ) (places b : List ℕ) where
  abbrev at : Result
  at = at_door tape table numbers (length places) (length b)

  -- what is owed of the answer r, of the table x and of the buffer e
  abbrev pub Opened : ℕ → List ℕ → List ℕ → Type 0
  Opened r x e =
      Packed (answer_at tape table numbers (length places) (length b)) r × ((x ≡ places_at tape table numbers places (length b)) × (e ≡ buffer_at tape table numbers (length places) b))

  opened_by : {z : Result} → at ≡ z → {r : ℕ} {x e : List ℕ} → Packed z.answer r → x ≡ places_at tape table numbers places (length b) → e ≡ laid_by z b → Opened r x e
  opened_by h {r} {x} {e} p f l =
      subst (λ (y : Result). Packed y.answer r × ((x ≡ places_at tape table numbers places (length b)) × (e ≡ laid_by y b))) (sym h) (p, (f, l))

  is_refused : unfit numbers ≡ true → at ≡ refused bad_settings 0
  unfolding at_door
  is_refused h = rw h refl

  is_kept : unfit numbers ≡ true → places ≡ places_at tape table numbers places (length b)
  unfolding places_at
  is_kept h = rw h refl

  pub refused_here : unfit numbers ≡ true → {r : ℕ} → Packed (Alarm bad_settings 0 0) r → Opened r places b
  refused_here h p = opened_by (is_refused h) p (is_kept h) (none_begun bad_settings 0 b).1

  module _ (h : unfit numbers ≡ false) {set : Settings} (s : set ≡ settings_of numbers) where
    is_run : at ≡ interpretation tape table set (length places) (length b)
    unfolding at_door
    is_run = rw (h, s) refl

    is_filled : places_at tape table numbers places (length b) ≡ places_of tape table set places (length b)
    unfolding places_at
    is_filled = rw (h, s) refl

    pub ran_here : {a : Answer} → a ≡ answer_of tape table set (length places) (length b) → {r : ℕ} {x e : List ℕ} → Packed a r → x ≡ places_of tape table set places (length b)
        → e ≡ buffer_of tape table set (length places) b → Opened r x e
    ran_here k {r} p f l = opened_by is_run (subst (λ (x : Answer). Packed x r) k p) (f ∙ sym is_filled) l

  -- what holds of alarm 1 and of every answer of the interpreter holds at the door
  by_fit : (P : Result → Type 0) → P (refused bad_settings 0) → P (interpretation tape table (settings_of numbers) (length places) (length b)) → (bad : Bool) → unfit numbers ≡ bad → P at
  by_fit P one all true h = subst P (sym (is_refused h)) one
  by_fit P one all false h = subst P (sym (is_run h refl)) all

  abbrev at_door_lem : (P : Result → Type 0) → P (refused bad_settings 0) → P (interpretation tape table (settings_of numbers) (length places) (length b)) → P at
  at_door_lem P one all = by_fit P one all (unfit numbers) refl

  table_by : TableAfter (accepted_at tape table numbers (length places) (length b)) places (places_at tape table numbers places (length b))
  unfolding accepted_at places_at
  table_by = go (unfit numbers)
    where
      go : (bad : Bool)
          → TableAfter (cond bad [] (accepted_in tape table (settings_of numbers) (length places) (length b))) places (cond bad places (places_of tape table (settings_of numbers) places (length b)))
      go true = none_after places
      go false = table_after tape table (settings_of numbers) places (length b)

  pub demand_one_at_door : DemandOneAtDoor tape table numbers places b
  demand_one_at_door = (
    at_door_lem (λ x. Owed (settings_of numbers).points (length tape) x b) (none_owed (settings_of numbers).points (length tape) b bad_settings 0 refl (omega arith) (omega arith))
        (all_owed tape table (settings_of numbers) (length places) b),
    table_by,
  )

  pub demand_two_at_door : DemandTwoAtDoor tape table numbers (length places) b
  demand_two_at_door = at_door_lem (λ x. OwedList x b) (λ e. absurd (omega (arith, e))) (demand_two tape table (settings_of numbers) (length places) b)

  pub alarms_stand_at_door : AlarmsStandAtDoor tape table numbers (length places) (length b)
  alarms_stand_at_door = record { refuses = is_refused; takes = λ h. is_run h refl; stands = alarms_stand (input_at tape table numbers (length places) (length b)) }

  -- of the steps; an alarm 1 has none
  abbrev t : Task
  t = task_at tape table numbers (length places) (length b)

  pub demand_three_at_door : DemandThreeAtDoor tape table numbers (length places) (length b)
  unfolding Each
  demand_three_at_door = at_door_lem (λ x. EveryCycle t x.steps) tt (demand_three tape table (settings_of numbers) (length places) (length b))

  pub thread_promise_at_door : ThreadPromiseAtDoor tape table numbers (length places) (length b)
  unfolding Each
  thread_promise_at_door = at_door_lem (λ x. Each (Threads t) x.steps) tt (thread_promise tape table (settings_of numbers) (length places) (length b))

  pub depth_law_at_door : DepthLawAtDoor tape table numbers (length places) (length b)
  unfolding Each
  depth_law_at_door = at_door_lem (λ x. Each (Deepens t) x.steps) tt (depth_law tape table (settings_of numbers) (length places) (length b))

  pub demand_three_in_buffer_at_door : DemandThreeInBufferAtDoor tape table numbers (length places) b
  unfolding EachFrom
  demand_three_in_buffer_at_door = at_door_lem (λ x. EachFrom (CutIn t (laid_by x b)) 0 x.steps) tt (demand_three_in_buffer tape table (settings_of numbers) (length places) b)

  pub thread_promise_in_buffer_at_door : ThreadPromiseInBufferAtDoor tape table numbers (length places) b
  unfolding EachFrom
  thread_promise_in_buffer_at_door = at_door_lem (λ x. EachFrom (ThreadsIn t (laid_by x b)) 0 x.steps) tt (thread_promise_in_buffer tape table (settings_of numbers) (length places) b)

  pub depth_law_in_buffer_at_door : DepthLawInBufferAtDoor tape table numbers (length places) b
  unfolding EachFrom
  depth_law_in_buffer_at_door = at_door_lem (λ x. EachFrom (DeepensIn t (laid_by x b)) 0 x.steps) tt (depth_law_in_buffer tape table (settings_of numbers) (length places) b)

  pub every_block_named_at_door : EveryBlockNamedAtDoor tape table numbers (length places) b
  unfolding EachFrom
  every_block_named_at_door = at_door_lem (λ x. EachFrom (BlockNamed t (laid_by x b)) 0 x.steps) tt (every_block_named tape table (settings_of numbers) (length places) b)

  pub arc_promise_at_door : ArcPromiseAtDoor tape table numbers (length places) (length b)
  arc_promise_at_door = at_door_lem (ArcsOwed (settings_of numbers)) (no-arcs (settings_of numbers) bad_settings 0) (arc_promise tape table (settings_of numbers) (length places) (length b))

  pub arc_promise_in_buffer_at_door : ArcPromiseInBufferAtDoor tape table numbers (length places) b
  arc_promise_in_buffer_at_door =
      at_door_lem (ArcsOwedIn (settings_of numbers) b) (no-arcs-in (settings_of numbers) b bad_settings 0) (arc_promise_in_buffer tape table (settings_of numbers) (length places) b)

  pub arcs_written_at_door : ArcsWrittenAtDoor tape table numbers (length places) (length b)
  unfolding Each
  arcs_written_at_door = at_door_lem (λ x. Each (Rounds t) x.steps) tt (arcs_written tape table (settings_of numbers) (length places) (length b))

  pub arcs_written_in_buffer_at_door : ArcsWrittenInBufferAtDoor tape table numbers (length places) b
  unfolding EachFrom
  arcs_written_in_buffer_at_door = at_door_lem (λ x. EachFrom (RoundsIn t (laid_by x b)) 0 x.steps) tt (arcs_written_in_buffer tape table (settings_of numbers) (length places) b)

  pub answer_fits : (set : Settings) {a : Answer} → a ≡ answer_of tape table set (length places) (length b) → Fits a
  answer_fits set {a} k =
      let t = (all_owed tape table set (length places) b).told in
      subst Fits (sym k) (record { place = omega (arith, t.near); count = omega (arith, t.count) })
