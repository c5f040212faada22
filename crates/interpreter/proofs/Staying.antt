-- WITH A TABLE OF PLACES THAT IS LONG ENOUGH ALL LISTS AND ALARMS STAY: the whole answer and every byte of the buffer are those of the first layout, which knows no such table and walks along the tape. Long enough is one of
-- 21,845 entries for every tape, and for one tape any with which the answer is not 22.
-- Assumes nothing.
use mathlib.Core.Path.{◌≡◌, refl, ap}
use mathlib.Core.Bool.{Bool, true, false, cond}
use mathlib.Core.List.{List}
use Prim.Native.Nat.{ℕ, ◌≤◌}
use lib.Dec.{ltb}
use lib.IntN.{ℤ}
use lib.ListN.{length}
use borrow.Author.Tests.{ltb-false}
use Rattle.alarms.specs.Numbers.{bad_settings, tape_too_long, buffer_too_short, places_too_short}
use Rattle.moves.specs.Form.{header_size}
use Rattle.reading.specs.Reading.{read_of}
use Rattle.reading.specs.Filling.{read_with, most_places}
use Rattle.reading.specs.declared.Read.{Read}
use Rattle.reading.proofs.Enough as reads
use Rattle.reading.proofs.Staying.{Stays, same, short, stays}
use Rattle.answers.specs.declared.Answer.TheVariants.{Alarm}
use Rattle.settings.specs.Wrong.{settings_wrong}
use Rattle.settings.specs.declared.Settings.{Settings}
use Rattle.interpreter.specs.Answers.{Result, refused, read_then, longest_tape, interpretation_by, interpretation, first_interpretation, answer_of, laid_by, buffer_of}

module _ (tape : List ℕ) (table : List ℤ) (set : Settings) (size : ℕ) (long : most_places ≤ size) where
  pub all_stay : (bytes : ℕ) → interpretation tape table set size bytes ≡ first_interpretation tape table set bytes
  unfolding interpretation first_interpretation interpretation_by
  all_stay bytes = go (ltb longest_tape (length tape)) refl
    where
      by : Bool → Read → Result
      by t r = cond (settings_wrong table set) (refused bad_settings 0) (cond t (refused tape_too_long 0) (cond (ltb bytes header_size) (refused buffer_too_short 0) (read_then tape table set bytes r)))

      go : (t : Bool) → ltb longest_tape (length tape) ≡ t → by t (read_with set.points size tape).read ≡ by t (read_of set.points tape)
      go true q = refl
      go false q = ap (by false) (reads.all_stay set.points size tape (ltb-false longest_tape (length tape) q) long)

  pub answers_stay : (bytes : ℕ) → answer_of tape table set size bytes ≡ (first_interpretation tape table set bytes).answer
  answers_stay bytes = ap (λ (x : Result). x.answer) (all_stay bytes)

  pub buffers_stay : (b : List ℕ) → buffer_of tape table set size b ≡ laid_by (first_interpretation tape table set (length b)) b
  buffers_stay b = ap (λ (x : Result). laid_by x b) (all_stay (length b))

-- whatever the length of the table: unless it is 22
module _ (tape : List ℕ) (table : List ℤ) (set : Settings) (size bytes : ℕ) where
  by_read : (plain r : Read) → Stays plain r → ((place count : ℕ) → (interpretation_by r tape table set bytes).answer ≡ Alarm places_too_short place count → ⊥)
      → interpretation_by r tape table set bytes ≡ interpretation_by plain tape table set bytes
  unfolding interpretation_by read_then
  by_read plain r same never = refl
  by_read plain r (short {place}) never = go (settings_wrong table set) (ltb longest_tape (length tape)) (ltb bytes header_size) never
    where
      by : Bool → Bool → Bool → Result → Result
      by a b c x = cond a (refused bad_settings 0) (cond b (refused tape_too_long 0) (cond c (refused buffer_too_short 0) x))

      go : (a b c : Bool) → ((p count : ℕ) → (by a b c (refused places_too_short place)).answer ≡ Alarm places_too_short p count → ⊥)
          → by a b c (refused places_too_short place) ≡ by a b c (read_then tape table set bytes plain)
      go true b c never = refl
      go false true c never = refl
      go false false true never = refl
      go false false false never = absurd (never place 0 refl)

  pub stays_unless : ((place count : ℕ) → answer_of tape table set size bytes ≡ Alarm places_too_short place count → ⊥)
      → interpretation tape table set size bytes ≡ first_interpretation tape table set bytes
  unfolding interpretation first_interpretation
  stays_unless never = by_read (read_of set.points tape) (read_with set.points size tape).read (stays set.points size tape) never
