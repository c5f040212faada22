-- What holds of an alarm before any block is begun, and of every run of a main program, holds of what comes of every input.
-- Assumes nothing.
use mathlib.Core.Path.{◌≡◌, refl}
use mathlib.Core.Bool.{Bool, true, false, cond}
use mathlib.Core.List.{List, [], ◌∷◌}
use Prim.Native.Nat.{ℕ, ◌-◌, ◌<◌, ◌≤◌}
use native.Mathlib.Omega.{arith}
use lib.Dec.{ltb, eqb}
use lib.IntN.{ℤ}
use lib.ListN.{length, take}
use borrow.Author.Tests.{ltb-false, eqb-false}
use Rattle.alarms.specs.Numbers.{no_program}
use Rattle.alarms.specs.Given.{IsAlarm}
use Rattle.moves.specs.Form.{header_size}
use Rattle.tape.specs.Lines.{seek_from, opens_tape, Text, lines}
use Rattle.showing.specs.Showing.{judged}
use Rattle.finding.specs.Finding.{find_program}
use Rattle.reading.specs.Reading.{History, nothing_read, noted, ends_with}
use Rattle.reading.specs.Filling.{Filled, nothing_filled, filed, alarm_with, Readings, read_lines_with, read_with}
use Rattle.places.specs.declared.Found.{Found}
use Rattle.places.specs.declared.Found.TheVariants.{At, Nowhere}
use Rattle.reading.specs.declared.Read.{Read}
use Rattle.reading.specs.declared.Read.TheVariants as read
use Rattle.settings.specs.declared.Settings.{Settings}
use Rattle.ahead.specs.Ahead.{most_calls, FoundAt}
use Rattle.interpreter.specs.of_taking.Steps.{Task, task_of}
use Rattle.ahead.proofs.Places.{AllIn, lines_in, FoundIn, program_on}
use Rattle.interpreter.specs.Answers.{Result, refused, result_of, main_at, main_by, main_run, read_then, longest_tape, interpretation_by, interpretation}
use Rattle.interpreter.specs.of_answers.Answers.{start_of}
use Rattle.interpreter.specs.of_runners.Runs.{program_run}
use Rattle.settings.specs.Wrong.{settings_wrong}
use Rattle.settings.specs.Known.{Right}
use Rattle.settings.specs.Points.{with_points}
use Rattle.settings.proofs.Right.{right, right_points}
use Rattle.demands.specs.Demands.{read_task, task}
use Rattle.demands.proofs.Named.{given_above, line_named}

by_test : {A : Type 0} (P : A → Type 0) (c : Bool) (x y : A) → P x → (c ≡ false → P y) → P (cond c x y)
by_test P true x y h k = h
by_test P false x y h k = k refl

-- ---- an alarm of reading is one of 01's and has the place of a line, or of no byte on an empty tape
abbrev AlarmOn : Bool → ℕ → Read → Type 0
AlarmOn points n (read.Whole first end) = Unit {0}
AlarmOn points n (read.Alarm alarm place) = IsAlarm points alarm × (place ≤ n - 1)

lines_on : (points : Bool) (size first end n : ℕ) (h : History) (f : Filled) (ts : List Text) → AllIn n ts → AlarmOn points n (read_lines_with points size first end h f ts).read
unfolding read_lines_with
lines_on points size first end n h f [] a = tt
lines_on points size first end n h f (t ∷ ts) a =
    let j = judged t.bytes in
    let k = noted h j.head in
    let g = filed f j.head t.place in
    let alarm = alarm_with points size h f j in
    let P : Readings → Type 0 = λ x. AlarmOn points n x.read in
    by_test P (eqb alarm 0) _ (record { read = read.Alarm alarm t.place; row = f.row })
    (by_test P (ends_with j.head j.ends) (record { read = read.Whole first t.after; row = g.row }) (read_lines_with points size first end k g ts) tt
    λ _. lines_on points size first end n k g ts a.1)
    (λ e. (given_above points alarm (line_named points size h f t.bytes) (eqb-false alarm 0 e), omega (arith, a.0)))

read_on_lem : (points : Bool) (size : ℕ) (tape : List ℕ) → AlarmOn points (length tape) (read_with points size tape).read
unfolding read_with
read_on_lem points size tape =
    let first = seek_from opens_tape tape 0 in
    by_test (λ (x : Readings). AlarmOn points (length tape) x.read) (ltb first (length tape)) _ (record { read = read.Alarm no_program 0; row = [] })
    (lines_on points size first (length tape) (length tape) nothing_read nothing_filled (lines tape first) (lines_in tape first)) λ _. (refl, omega arith)

-- ---- what comes of every input
module _ (P : Task → Result → Type 0) (tape : List ℕ) (table : List ℤ) (set : Settings) (size bytes : ℕ)
    (none : (t : Task) (alarm place : ℕ) → IsAlarm set.points alarm → place ≤ length tape - 1 → place ≤ longest_tape → P t (refused alarm place))
    (some : header_size ≤ bytes → length tape ≤ longest_tape → settings_wrong table set ≡ false → Right table (with_points false set) → (first end p : ℕ) → let t = task_of (take end tape) table (with_points false set) first bytes in
    p < length t.tape → FoundAt t.tape first (main_at set p) → P t (result_of (program_run t (main_at set p) most_calls (start_of (with_points false set))))) where
  main_is : header_size ≤ bytes → length tape ≤ longest_tape → settings_wrong table set ≡ false → Right table (with_points false set) → (first end : ℕ) → let t = task_of (take end tape) table (with_points false set) first bytes in
      (f : Found) → find_program set.main (lines t.tape first) ≡ f → FoundIn (length t.tape) f → P t (main_by t f)
  unfolding main_by
  main_is h n w k first end (At p) is on = some h n w k first end p on is
  main_is h n w k first end Nowhere is on = none _ _ 0 refl (omega arith) (omega arith)

  read_is : header_size ≤ bytes → length tape ≤ longest_tape → settings_wrong table set ≡ false → Right table (with_points false set) → (r : Read) → AlarmOn set.points (length tape) r → P (read_task tape table set bytes r) (read_then tape table set bytes r)
  unfolding read_then main_run
  read_is h n w k (read.Whole first end) on = main_is h n w k first end (find_program set.main (lines (take end tape) first)) refl (program_on set.main (take end tape) first)
  read_is h n w k (read.Alarm alarm place) on = none _ alarm place on.0 on.1 (omega (arith, n, on.1))

  pub every_result : P (task tape table set size bytes) (interpretation tape table set size bytes)
  unfolding interpretation interpretation_by
  every_result =
      let t = task tape table set size bytes in
      let first : (alarm : ℕ) → IsAlarm set.points alarm → P t (refused alarm 0) = λ alarm h. none t alarm 0 h (omega arith) (omega arith) in
      by_test (P t) (settings_wrong table set) _ _ (first _ refl) λ settings.
      by_test (P t) (ltb longest_tape (length tape)) _ _ (first _ refl) λ short.
      by_test (P t) (ltb bytes header_size) _ _ (first _ refl) λ long.
      read_is (ltb-false bytes header_size long) (ltb-false longest_tape (length tape) short) settings (right_points false (right table set settings)) (read_with set.points size tape).read (read_on_lem set.points size tape)
