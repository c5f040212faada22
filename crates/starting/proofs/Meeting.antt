-- A run that is started has to hand out what the list engine answers: one law for each way out.
-- Assumes nothing.
use mathlib.Core.Path.{◌≡◌, refl, sym, ap, ◌∙◌, subst}
use mathlib.Core.Bool.{true, false}
use mathlib.Core.List.{List, []}
use Prim.Native.Nat.{ℕ, ◌≤◌, ◌<◌}
use native.Mathlib.Omega.{arith}
use lib.IntN.{ℤ, pos}
use lib.ListN.{length, take, length-replicate, get_or-replicate}
use lib.Seq.{length-take-le}
use borrow.Author.Tests.{lt-ltb, le-ltb}
use Rattle.whole.specs.Position.{in_table}
use Rattle.alarms.specs.Numbers.{bad_settings, tape_too_long, program_missing}
use Rattle.moves.specs.Form.{record_limit, room_of}
use Rattle.tape.specs.Lines.{lines}
use Rattle.tape.proofs.Lining.{line_in_lem}
use Rattle.settings.specs.declared.Settings.{Settings}
use Rattle.settings.specs.Points.{with_points}
use Rattle.settings.specs.Wrong.{settings_wrong}
use Rattle.settings.proofs.Right.{right}
use Rattle.places.specs.Places.{Row, program_in}
use Rattle.places.specs.declared.Found.{Found}
use Rattle.places.specs.declared.Found.TheVariants.{At, Nowhere}
use Rattle.finding.specs.Finding.{find_program}
use Rattle.finding.specs.Finds.{Finds}
use Rattle.reading.specs.Reading.{longest_tape, place_of}
use Rattle.reading.specs.Filling.{Readings, told, read_with, places_behind}
use Rattle.reading.specs.declared.TapeRead.{TapeRead}
use Rattle.reading.specs.declared.Read.{Read}
use Rattle.reading.specs.declared.Read.TheVariants as read
use Rattle.targets.proofs.Ranges.{start_sound}
use Rattle.ahead.specs.Ahead.{most_calls}
use Rattle.ahead.specs.declared.Frame.{Frame}
use Rattle.ahead.proofs.Places.{found_within}
use Rattle.returning.specs.of_taking.Steps.{Task, task_in}
use Rattle.returning.specs.of_taking.declared.Run.{Run}
use Rattle.returning.specs.of_runners.Runs.{Ran, blocks_in_all, listed_of}
use Rattle.returning.specs.of_answers.Answers.{start_of}
use Rattle.returning.specs.of_interpreter.Answers.{Result, refused, result_of, main_at, main_by, main_run, read_then, interpretation_by, interpretation, row_of, places_of}
use Rattle.returning.specs.of_interpreter.Known.{ReadIn}
use Rattle.returning.proofs.of_interpreter.Whole.{read_known}
use Rattle.returning.specs.of_resuming.Engines.{ahead, joined, remaining}
use Rattle.returning.specs.of_resuming.Handed.{left_of, roomy}
use Rattle.returning.proofs.of_resuming.Remaining.{begins}
use Rattle.state.specs.Known.{Sound}
use Rattle.returning.specs.of_paused.Kept.{nobody, Waits, Answers, Kept}
use Rattle.returning.specs.of_paused.declared.Phase.{Phase}
use Rattle.returning.specs.of_paused.declared.Phase.TheVariants.{Running, Over}
use Rattle.returning.specs.of_paused.declared.Going.{Going}
use Rattle.returning.specs.Standing.{stack_of, AllFound, left_for, task_for}
use Rattle.returning.specs.Moving.{entry_of}
use Rattle.returning.proofs.Going.{within_is}
use Rattle.starting.specs.Begun.{standing_at, refused_with, begun_at}
use Rattle.starting.specs.Starts.{StartMeets}
use Rattle.starting.proofs.Bounded.{Bounded, read_bounded}

-- ---- a run before which no program waits is within its bounds
kept_standing : (f : Frame) (r : Run) (phase : Phase) (end filled : ℕ) → (f.at ≤ end) × (f.program.line ≤ end) × (f.calls_left ≤ most_calls) → (r.blocks_left ≤ blocks_in_all) × (r.count ≤ record_limit)
    → (end ≤ longest_tape) × (filled ≤ longest_tape) → Answers phase → Kept (standing_at f r phase end filled)
kept_standing f r phase end filled here run read answer = record {
  here = here.0;
  line = here.1;
  calls = here.2;
  size = length-replicate most_calls nobody;
  waits = λ k h. subst (Waits end) (sym (get_or-replicate most_calls k nobody nobody h)) (record { line = omega arith; after = omega arith });
  blocks = run.0;
  count = run.1;
  tape = read.0;
  filled = read.1;
  answer = answer;
}

-- ---- what a refused run and a run of the main program have to hand out
pub refused_left : (t : Task) (alarm place : ℕ) → left_for t [] (refused_with alarm place) ≡ left_of (refused alarm place)
unfolding remaining joined ahead left_of listed_of
refused_left t alarm place = refl

main_left : (tape : List ℕ) (table : List ℤ) (set : Settings) (first end filled p : ℕ) → let t = task_for tape table (with_points false set) first in
    left_for t [] (standing_at (entry_of tape (main_at set p) most_calls) (start_of set) Running end filled) ≡ left_of (main_by t (At p))
unfolding remaining joined ahead stack_of main_by
main_left tape table set first end filled p =
    ap (λ (x : Ran). left_of (result_of x)) (sym (begins (task_for tape table (with_points false set) first) (main_at set p) most_calls (start_of set)))

-- a buffer of 64,008 bytes has room for as many records as a list may have
roomy_room : room_of roomy ≡ record_limit
unfolding room_of
roomy_room = refl

-- a run that is refused before any block is begun
pub refused_kept : (alarm place : ℕ) → place ≤ longest_tape → Kept (refused_with alarm place)
refused_kept alarm place near =
    kept_standing _ _ (Over _) 0 0 (omega arith, omega arith, omega arith) (omega arith, omega arith) (omega arith, omega arith) (record { place = near; count = omega arith })

pub refused_sound : (alarm place : ℕ) → Sound (refused_with alarm place).run.state
unfolding in_table
refused_sound alarm place = start_sound (pos 0) (pos 0) refl refl

module _ (tape : List ℕ) (table : List ℤ) (set : Settings) (places : List ℕ) where
  abbrev whole : Result
  whole = interpretation tape table set (length places) roomy

  abbrev after : List ℕ
  after = places_of tape table set places roomy

  -- an alarm before any block is begun
  refusal : (alarm place : ℕ) → place ≤ longest_tape → whole ≡ refused alarm place → {g : Going} → g ≡ refused_with alarm place → StartMeets tape table set places g
  refusal alarm place near e h = subst (StartMeets tape table set places) (sym h) (record {
    first = 0;
    same = refused_left (task_for (take 0 tape) table (with_points false set) 0) alarm place ∙ sym (ap left_of e);
    placed = tt;
    ready = tt;
    kept = refused_kept alarm place near;
    state = refused_sound alarm place;
  })

  -- ---- alarms 1 and 2
  pub wrong_settings : settings_wrong table set ≡ true → {g : Going} → g ≡ refused_with bad_settings 0 → StartMeets tape table set places g
  unfolding interpretation interpretation_by
  wrong_settings e h = refusal bad_settings 0 (omega arith) (rw e refl) h

  pub wrong_kept : settings_wrong table set ≡ true → places ≡ after
  unfolding row_of
  wrong_kept e = rw e refl

  module _ (h1 : settings_wrong table set ≡ false) where
    pub long_tape : longest_tape < length tape → {g : Going} → g ≡ refused_with tape_too_long 0 → StartMeets tape table set places g
    unfolding interpretation interpretation_by
    long_tape e h = refusal tape_too_long 0 (omega arith) (rw (h1, lt-ltb longest_tape (length tape) e) refl) h

    pub long_kept : longest_tape < length tape → places ≡ after
    unfolding row_of
    long_kept e = rw (h1, lt-ltb longest_tape (length tape) e) refl

    -- ---- the tape as it was read
    module _ (h2 : length tape ≤ longest_tape) where
      abbrev readings : Readings
      readings = read_with set.points (length places) tape

      bounds : Bounded (length tape) (length places) readings
      bounds = read_bounded set.points (length places) tape

      is_read : {r : Read} → r ≡ readings.read → whole ≡ read_then tape table set roomy r
      unfolding interpretation interpretation_by
      is_read e = rw (h1, le-ltb longest_tape (length tape) h2) (ap (read_then tape table set roomy) (sym e))

      -- as the code tells it, and the table of places behind it
      module _ {t : TapeRead} (e : t ≡ told readings) {x : List ℕ} (f : x ≡ places_behind readings.row places) where
        read_same : t.read ≡ readings.read
        read_same = ap (λ (y : TapeRead). y.read) e

        pub read_filled : x ≡ after
        unfolding row_of
        read_filled = f ∙ rw (h1, le-ltb longest_tape (length tape) h2) refl

        pub read_refused : (alarm place : ℕ) → t.read ≡ read.Alarm alarm place → {g : Going} → g ≡ refused_with alarm place → StartMeets tape table set places g
        unfolding read_then
        read_refused alarm place h k =
            refusal alarm place (omega (arith, h2, bounds.place, ap place_of (sym read_same ∙ h))) (is_read read_same ∙ ap (read_then tape table set roomy) h) k

        -- the main program of the tape up to where its reading ended
        module _ (first end : ℕ) (h : t.read ≡ read.Whole first end) where
          abbrev cut : List ℕ
          cut = take end tape

          known : ReadIn tape x t.count (read.Whole first end)
          known = subst (ReadIn tape x t.count) h (read_known tape table set places [] h1 h2 e f)

          pub cut_size : end ≡ length cut
          cut_size = sym (length-take-le end tape known.0)

          pub begin_needs : (t.count ≤ length x) × Row (take t.count x)
          begin_needs = (known.1.filled, known.1.finds.ascends)

          is_main : {found : Found} → find_program set.main (lines cut first) ≡ found → whole ≡ main_by (task_for cut table (with_points false set) first) found
          unfolding read_then main_run
          is_main z = is_read read_same ∙ ap (read_then tape table set roomy) h ∙ (λ i. main_by (task_in cut table (with_points false set) first (roomy_room i)) (z i))

          module _ (p : ℕ) (z : find_program set.main (lines cut first) ≡ At p) where
            within : p ≤ length cut
            within = found_within cut first (main_at set p) z

            begun : StartMeets tape table set places (standing_at (entry_of cut (main_at set p) most_calls) (start_of set) Running end t.count)
            unfolding AllFound stack_of
            begun =
                let sets = right table set h1 in
                let count : t.count ≡ length readings.row = ap (λ (y : TapeRead). y.count) e in
                record {
                  first = first;
                  same = main_left cut table set first end t.count p ∙ sym (ap left_of (is_main z));
                  placed = record { finds = subst (λ (y : List ℕ). Finds (take t.count y) cut first) read_filled known.1.finds; there = z; waits = tt };
                  ready = (h1, known.0, omega (arith, count, bounds.room));
                  kept = kept_standing _ _ Running end t.count (omega (arith, cut_size, (line_in_lem cut p within).ends), omega (arith, cut_size, within), omega arith) (omega arith, omega arith)
                      (omega (arith, known.0, h2), omega (arith, count, bounds.entries, h2)) tt;
                  state = start_sound set.x set.z sets.starts.x sets.starts.z;
                }

            found_begun : StartMeets tape table set places (begun_at cut set t.count (At p))
            unfolding begun_at
            found_begun =
                subst (StartMeets tape table set places)
                (λ i. standing_at (entry_of cut (main_at set (sym (within_is (length cut) p within) i)) most_calls) (start_of set) Running (cut_size i) t.count) begun

          begun_by : (found : Found) → find_program set.main (lines cut first) ≡ found → StartMeets tape table set places (begun_at cut set t.count found)
          unfolding begun_at main_by
          begun_by Nowhere z = refusal program_missing 0 (omega arith) (is_main z) refl
          begun_by (At p) z = found_begun p z

          pub read_begun : {g : Going} → g ≡ begun_at cut set t.count (program_in set.main (take t.count x)) → StartMeets tape table set places g
          read_begun k =
              let found = program_in set.main (take t.count x) in
              subst (StartMeets tape table set places) (sym k) (begun_by found (sym (known.1.finds.programs set.main)))
