-- Every answer stands on what was judged and done, and where nothing refuses there is a list.
-- Assumes nothing.
use mathlib.Core.Path.{◌≡◌, refl, sym, ap, ◌∙◌}
use mathlib.Core.Bool.{Bool, true, false, cond, not, ◌||◌}
use mathlib.Core.List.{List, [], ◌∷◌}
use Prim.Native.Nat.{ℕ, suc}
use native.Mathlib.Omega.{arith}
use lib.Dec.{ltb, leb-suc-suc}
use lib.ListN.{length}
use borrow.Author.Tests.{lt-ltb}
use Rattle.alarms.specs.Numbers.{no_program}
use Rattle.moves.specs.Form.{header_size}
use Rattle.settings.specs.Wrong.{settings_wrong}
use Rattle.tape.specs.Lines.{seek, opens_tape}
use Rattle.block.specs.Slots.{any_of}
use Rattle.reading.specs.Reading.{nothing_read}
use Rattle.reading.specs.Filling.{nothing_filled, read_with}
use Rattle.reading.specs.declared.Read.{Read}
use Rattle.reading.specs.declared.Read.TheVariants as read
use Rattle.places.specs.declared.Found.{Found}
use Rattle.places.specs.declared.Found.TheVariants.{At, Nowhere}
use Rattle.ahead.specs.Ahead.{most_calls}
use Rattle.demands.specs.of_taking.Steps.{Task}
use Rattle.demands.specs.of_runners.Runs.{Ran, program_run}
use Rattle.demands.specs.of_runners.declared.Ending.{Ending}
use Rattle.demands.specs.of_runners.declared.Ending.TheVariants.{Returned, Ended, Stopped}
use Rattle.demands.specs.of_answers.Answers.{answer_by, start_of}
use Rattle.demands.specs.of_answers.declared.Answer.TheVariants.{Alarm}
use Rattle.demands.specs.of_interpreter.Answers.{Result, refused, result_of, main_at, main_by, main_run, read_then, longest_tape, interpretation_by, interpretation}
use Rattle.alarmed.specs.Order.{Passes, none, no, yes, later}
use Rattle.alarmed.specs.Tests.{Input, settings_bad, too_long, too_short, unopened, input_order}
use Rattle.alarmed.specs.Alarmed.{at_first, first_of, lines_of, refuses, ReadTo, all, ended, task_to, main_in, begins, Stands, input, line, main, run, list, answered}
use Rattle.alarmed.proofs.Lines.{Came, read_from, came}
use Rattle.alarmed.proofs.Lines as line_laws
use Rattle.alarmed.proofs.Never.{never_returns}
use Rattle.alarmed.proofs.Walks.{CameTo, program_walks}

by_test : {A : Type 0} (P : A → Type 0) (c : Bool) (x y : A) → (c ≡ true → P x) → (c ≡ false → P y) → P (cond c x y)
by_test P true x y h k = h refl
by_test P false x y h k = k refl

-- a tape whose first `%` or `O` stands on it is one that has any
opens_from : (s : List ℕ) → ltb (seek opens_tape s) (length s) ≡ any_of opens_tape s
unfolding seek any_of
opens_from [] = refl
opens_from (b ∷ s) = by (opens_tape b) (opens_from s)
  where
    by : (t : Bool) → ltb (seek opens_tape s) (length s) ≡ any_of opens_tape s → ltb (cond t 0 (suc (seek opens_tape s))) (suc (length s)) ≡ (t || any_of opens_tape s)
    by true h = lt-ltb 0 (suc (length s)) (omega arith)
    by false h = leb-suc-suc (suc (seek opens_tape s)) (length s) ∙ h

pub opens : (s : List ℕ) → ltb (first_of s) (length s) ≡ any_of opens_tape s
opens s = ap (λ (n : ℕ). ltb n (length s)) (omega arith) ∙ opens_from s

module _ (i : Input) where
  abbrev On : Result → Type 0
  On x = Stands i x.answer x.steps

  -- ---- the run
  module _ (well : Passes i input_order) (end : ℕ) (to : ReadTo i end) where
    abbrev t : Task
    t = task_to i end

    module _ (p : ℕ) (found : main_in i end ≡ At p) where
      abbrev x : Ran
      x = program_run t (main_at i.settings p) most_calls (start_of i.settings)

      by_ending : (h : Ending) → x.outcome.ending ≡ h → CameTo t (begins i end p) [] x.steps x.outcome.run h → Stands i (answer_by h x.outcome.run.count) x.steps
      unfolding answer_by
      by_ending Returned e c = absurd (never_returns t (main_at i.settings p) (start_of i.settings) e)
      by_ending Ended e c = list well to found c refl
      by_ending (Stopped alarm place) e c = run well to found c.walk c.refused

      run_stands : On (result_of x)
      unfolding result_of
      run_stands = by_ending x.outcome.ending refl (program_walks t (main_at i.settings p) (start_of i.settings) (omega arith))

    main_stands : (g : Found) → main_in i end ≡ g → On (main_by t g)
    unfolding main_by
    main_stands (At p) e = run_stands p e
    main_stands Nowhere e = main well to e

    read_stands : On (main_run t)
    unfolding main_run
    read_stands = main_stands (main_in i end) refl

  -- ---- the reading
  lines_stand : Passes i input_order → (r : Read) → Came i (first_of i.tape) (length i.tape) at_first (lines_of i.tape) r → On (read_then i.tape i.table i.settings i.bytes r)
  unfolding read_then
  lines_stand well r (line_laws.whole a) = read_stands well (length i.tape) (all a)
  lines_stand well r (line_laws.ended {line = l} c p f) = read_stands well l.after (ended c p f)
  lines_stand well r (line_laws.stopped c q) = line well (refuses c q)

  -- ---- the whole
  pub stands : On (answered i)
  unfolding interpretation interpretation_by settings_bad too_long too_short unopened read_then read_with
  stands =
      let first = first_of i.tape in
      by_test On (settings_wrong i.table i.settings) _ _ (λ e. input (yes e refl)) λ settings.
      by_test On (ltb longest_tape (length i.tape)) _ _ (λ e. input (later settings (yes e refl))) λ short.
      by_test On (ltb i.bytes header_size) _ _ (λ e. input (later settings (later short (yes e refl)))) λ long.
      let whole = read_from i first (length i.tape) nothing_read nothing_filled (lines_of i.tape) in
      by_test (λ r. On (read_then i.tape i.table i.settings i.bytes r.read)) (ltb first (length i.tape)) whole (record { read = read.Alarm no_program 0; row = [] })
      (λ e.
      lines_stand (no settings (no short (no long (no (ap not (sym (opens i.tape) ∙ e)) none)))) whole.read
      (came i first (length i.tape) at_first nothing_filled refl (lines_of i.tape)))
      (λ e. input (later settings (later short (later long (yes (ap not (sym (opens i.tape) ∙ e)) refl)))))
