-- The interpretation run: what the code answers and leaves in the buffer is what is defined, one law for each way out.
-- Assumes nothing.
use mathlib.Core.Path.{◌≡◌, refl, sym, ap, ◌∙◌, subst}
use mathlib.Core.Bool.{true, false}
use mathlib.Core.List.{List}
use Prim.Native.Nat.{ℕ, ◌≤◌, ◌<◌}
use native.Mathlib.Omega.{arith}
use lib.IntN.{ℤ}
use lib.ListN.{length, take, drop, length-append}
use lib.Seq.{take_at}
use borrow.Author.Tests.{lt-ltb, le-ltb}
use Rattle.octets.proofs.Laying.{laid_nil}
use Rattle.alarms.specs.Numbers.{bad_settings, tape_too_long, buffer_too_short, program_missing}
use Rattle.moves.specs.Form.{header_size, record_start, record_limit, row_bytes}
use Rattle.tape.specs.Lines.{lines}
use Rattle.places.specs.Places.{Row, program_in}
use Rattle.finding.specs.Finding.{find_program}
use Rattle.finding.specs.Finds.{Finds}
use Rattle.reading.specs.Filling.{Readings, told, read_with, places_behind}
use Rattle.reading.specs.declared.TapeRead.{TapeRead}
use Rattle.reading.specs.declared.Read.TheVariants as read
use Rattle.reading.proofs.Tabled.{finds, ends_on}
use Rattle.places.specs.declared.Found.{Found}
use Rattle.places.specs.declared.Found.TheVariants.{At, Nowhere}
use Rattle.reading.specs.declared.Read.{Read}
use Rattle.targets.proofs.Ranges.{start_sound}
use Rattle.settings.specs.declared.Settings.{Settings}
use Rattle.moves.proofs.Room.{room_few}
use Rattle.ahead.specs.Ahead.{most_calls}
use Rattle.answers.specs.of_taking.Steps.{Task, task_of}
use Rattle.answers.specs.of_steps.Meets.{Ready, Fit}
use Rattle.answers.specs.of_taking.declared.Run.{Run}
use Rattle.answers.specs.declared.Answer.{Answer}
use Rattle.answers.specs.declared.Answer.TheVariants.{Alarm}
use Rattle.answers.specs.of_runners.declared.Outcome.{Outcome}
use Rattle.answers.specs.of_runners.Runs.{listed_of, program_run}
use Rattle.answers.specs.of_runners.Meets.{Begins, RanMeets}
use Rattle.settings.specs.Points.{with_points}
use Rattle.settings.specs.Wrong.{settings_wrong}
use Rattle.settings.specs.Known.{Right}
use Rattle.interpreter.specs.Answers.{Result, refused, result_of, main_at, main_by, main_run, read_then, longest_tape, interpretation_by, interpretation, row_of, places_of, laid_by}
use Rattle.interpreter.specs.Known.{Lent, ReadIn}
use Rattle.answers.specs.Answers.{answer_by, start_of, headed}
use Rattle.answers.proofs.of_runners.Going.{wrote_length}

-- an answer and a buffer, as a result has them
abbrev pub Gives : Result → List ℕ → Answer → List ℕ → Type 0
Gives x b a e = (a ≡ x.answer) × (e ≡ laid_by x b)

gives_by : {x y : Result} (b : List ℕ) {a : Answer} {e : List ℕ} → x ≡ y → Gives y b a e → Gives x b a e
gives_by b {a} {e} h g = subst (λ (z : Result). Gives z b a e) (sym h) g

-- an alarm before any block is begun leaves every byte as it came
pub none_begun : (alarm place : ℕ) (b : List ℕ) → Gives (refused alarm place) b (Alarm alarm place 0) b
unfolding laid_by listed_of row_bytes
none_begun alarm place b = (refl, sym (laid_nil b (record_start 0)))

-- ---- the main program
module _ (tape : List ℕ) (table : List ℤ) (set : Settings) (first : ℕ) (b : List ℕ) where
  abbrev t : Task
  t = task_of tape table set first (length b)

  -- what was looked up in the table of places is what the walk finds
  pub main_found_lem : {places : List ℕ} {count : ℕ} → Lent places count tape first → {f : Found} → (Row (take count places) → f ≡ program_in set.main (take count places)) → f ≡ find_program set.main (lines tape first)
  main_found_lem lent e = e lent.finds.ascends ∙ lent.finds.programs set.main

  main_is : {f : Found} → f ≡ find_program set.main (lines tape first) → {g : Found} → f ≡ g → main_run t ≡ main_by t g
  unfolding main_run
  main_is e h = ap (main_by t) (sym e ∙ h)

  pub main_missing : {f : Found} → f ≡ find_program set.main (lines tape first) → f ≡ Nowhere → Gives (main_run t) b (Alarm program_missing 0 0) b
  unfolding main_by
  main_missing e h = gives_by b (main_is e h) (none_begun program_missing 0 b)

  module _ {places : List ℕ} {count : ℕ} (lent : Lent places count tape first) (right : Right table set) (header : header_size ≤ length b) where
    ready : Ready t (length b) places count
    ready = record { table = right.offsets; range = right.range; header = header; filled = lent.filled; finds = lent.finds }

    starts : {r : Run} → r ≡ start_of set → Fit t r
    starts e = subst (Fit t) (sym e) (record { sound = start_sound set.x set.z right.starts.x right.starts.z; count = omega arith })

    pub main_begins : {f : Found} → f ≡ find_program set.main (lines tape first) → (p : ℕ) → f ≡ At p → {r : Run} → r ≡ start_of set
        → Begins t (length b) places count (main_at set p) r
    main_begins e p h k = record { ready = ready; fit = starts k; there = sym e ∙ h; few = omega (arith, ap (λ (x : Run). x.blocks_left) k) }

    module _ (p : ℕ) {r : Run} (k : r ≡ start_of set) {o : Outcome} {e : List ℕ} (q : RanMeets t (program_run t (main_at set p) most_calls r) b r o e) where
      -- the header and the count have their room
      pub finish_needs : (header_size ≤ length e) × (o.run.count ≤ record_limit)
      finish_needs = (
        omega (arith, header, wrote_length tape table set first b header refl (listed_of (program_run t (main_at set p) most_calls r).steps) q.took),
        omega (arith, q.took.fit.count, room_few (length b)),
      )

      ran : RanMeets t (program_run t (main_at set p) most_calls (start_of set)) b (start_of set) o e
      ran = subst (λ (s : Run). RanMeets t (program_run t (main_at set p) most_calls s) b s o e) k q

      pub main_ran : {f : Found} → f ≡ find_program set.main (lines tape first) → f ≡ At p → {a : Answer} {l : List ℕ}
          → a ≡ answer_by o.ending o.run.count → l ≡ headed (answer_by o.ending o.run.count) e → Gives (main_run t) b a l
      unfolding main_by result_of laid_by
      main_ran z h {a} {l} x y =
          let same : answer_by o.ending o.run.count ≡ (result_of (program_run t (main_at set p) most_calls (start_of set))).answer = ap (λ (w : Outcome). answer_by w.ending w.run.count) ran.outcome in
          gives_by b (main_is z h) (x ∙ same, y ∙ (λ i. headed (same i) (ran.took.buffer i)))

-- ---- the tape as it was read
module _ (tape : List ℕ) (table : List ℤ) (set : Settings) (places b : List ℕ) where
  -- what comes of it, and the table of places behind it
  abbrev whole : Result
  whole = interpretation tape table set (length places) (length b)

  abbrev after : List ℕ
  after = places_of tape table set places (length b)

  read_is : {r s : Read} → r ≡ s → read_then tape table set (length b) r ≡ read_then tape table set (length b) s
  read_is e = ap (read_then tape table set (length b)) e

  pub read_gives : {r s : Read} → r ≡ s → {a : Answer} {e : List ℕ} → Gives (read_then tape table set (length b) s) b a e → Gives (read_then tape table set (length b) r) b a e
  read_gives h g = gives_by b (read_is h) g

  -- the run, with the points off
  pub run_gives : (first end : ℕ) {x : Settings} → x ≡ with_points false set → {a : Answer} {e : List ℕ} → Gives (main_run (task_of (take end tape) table x first (length b))) b a e
      → Gives (read_then tape table set (length b) (read.Whole first end)) b a e
  unfolding read_then
  run_gives first end h {a} {e} g = subst (λ (x : Settings). Gives (main_run (task_of (take end tape) table x first (length b))) b a e) h g

  -- ---- alarms 1, 2 and 3
  is_wrong : settings_wrong table set ≡ true → whole ≡ refused bad_settings 0
  unfolding interpretation interpretation_by
  is_wrong e = rw e refl

  pub wrong_settings : settings_wrong table set ≡ true → Gives (whole) b (Alarm bad_settings 0 0) b
  wrong_settings h = gives_by b (is_wrong h) (none_begun bad_settings 0 b)

  pub wrong_kept : settings_wrong table set ≡ true → places ≡ after
  unfolding row_of
  wrong_kept h = rw h refl

  module _ (h1 : settings_wrong table set ≡ false) where
    is_long : longest_tape < length tape → whole ≡ refused tape_too_long 0
    unfolding interpretation interpretation_by
    is_long h = rw (h1, lt-ltb longest_tape (length tape) h) refl

    pub long_tape : longest_tape < length tape → Gives (whole) b (Alarm tape_too_long 0 0) b
    long_tape h = gives_by b (is_long h) (none_begun tape_too_long 0 b)

    pub long_kept : longest_tape < length tape → places ≡ after
    unfolding row_of
    long_kept h = rw (h1, lt-ltb longest_tape (length tape) h) refl

    module _ (h2 : length tape ≤ longest_tape) where
      is_short : length b < header_size → whole ≡ refused buffer_too_short 0
      unfolding interpretation interpretation_by
      is_short h = rw (h1, le-ltb longest_tape (length tape) h2, lt-ltb (length b) header_size h) refl

      pub short_buffer : length b < header_size → Gives (whole) b (Alarm buffer_too_short 0 0) b
      short_buffer h = gives_by b (is_short h) (none_begun buffer_too_short 0 b)

      pub short_kept : length b < header_size → places ≡ after
      unfolding row_of
      short_kept h = rw (h1, le-ltb longest_tape (length tape) h2, lt-ltb (length b) header_size h) refl

      is_read : header_size ≤ length b → whole ≡ read_then tape table set (length b) (read_with set.points (length places) tape).read
      unfolding interpretation interpretation_by
      is_read h = rw (h1, le-ltb longest_tape (length tape) h2, le-ltb (length b) header_size h) refl

      pub goes_on : header_size ≤ length b → {r : Read} → r ≡ (read_with set.points (length places) tape).read → {a : Answer} {e : List ℕ} → Gives (read_then tape table set (length b) r) b a e
          → Gives (whole) b a e
      goes_on h k g = gives_by b (is_read h ∙ sym (read_is k)) g

      pub read_filled : header_size ≤ length b → {x : List ℕ} → x ≡ places_behind (read_with set.points (length places) tape).row places → x ≡ after
      unfolding row_of
      read_filled h e = e ∙ rw (h1, le-ltb longest_tape (length tape) h2, le-ltb (length b) header_size h) refl

      -- what was read, with the table as it was left
      pub read_known : {r : TapeRead} {x : List ℕ} → r ≡ told (read_with set.points (length places) tape) → x ≡ places_behind (read_with set.points (length places) tape).row places
          → ReadIn tape x r.count r.read
      read_known {r} {x} e f = subst (λ (y : TapeRead). ReadIn tape x y.count y.read) (sym e) (subst (λ (y : List ℕ). ReadIn tape y (length row) readings.read) (sym f) (by readings.read refl))
        where
          readings : Readings
          readings = read_with set.points (length places) tape

          row : List ℕ
          row = readings.row

          by : (z : Read) → readings.read ≡ z → ReadIn tape (places_behind row places) (length row) z
          by (read.Alarm alarm place) q = tt
          by (read.Whole first end) q = (
            ends_on set.points (length places) tape first end q,
            record {
              filled = omega (arith, length-append row (drop (length row) places));
              finds = subst (λ (y : List ℕ). Finds y (take end tape) first) (sym (take_at row (drop (length row) places) (length row) refl)) (finds set.points (length places) tape first end q h2);
            },
          )
