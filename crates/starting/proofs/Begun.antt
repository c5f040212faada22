-- Where a run begins, by the tests of the code.
-- Assumes nothing.
use mathlib.Core.Path.{◌≡◌, sym, ap, ◌∙◌}
use mathlib.Core.List.{List}
use Prim.Native.Nat.{ℕ}
use lib.IntN.{pos}
use lib.ListN.{length}
use Rattle.alarms.specs.Numbers.{program_missing}
use Rattle.settings.specs.declared.Settings.{Settings}
use Rattle.places.specs.declared.Found.{Found}
use Rattle.places.specs.declared.Found.TheVariants.{At, Nowhere}
use Rattle.state.specs.Modal.{at_start}
use Rattle.state.specs.declared.State.{State}
use Rattle.ahead.specs.Ahead.{most_calls}
use Rattle.ahead.specs.declared.Frame.{Frame}
use Rattle.returning.specs.of_taking.declared.Run.{Run}
use Rattle.returning.specs.of_answers.Answers.{start_of}
use Rattle.returning.specs.of_answers.declared.Answer.TheVariants.{Alarm}
use Rattle.returning.specs.of_interpreter.Answers.{main_at}
use Rattle.returning.specs.of_resuming.Remains.{frame_at}
use Rattle.returning.specs.of_paused.declared.Phase.TheVariants.{Running, Over}
use Rattle.returning.specs.of_paused.declared.Going.{Going}
use Rattle.returning.specs.Moving.{within_of, entry_of}
use Rattle.starting.specs.Begun.{standing_at, refused_with, begun_at}

-- the machine stands at the start, at 0
pub refused_so : (alarm place : ℕ) {s : State} → s ≡ at_start (pos 0) (pos 0) → {g : Going}
    → g ≡ standing_at (frame_at (record { number = 0; line = 0 }) most_calls 0) (record { state = s; blocks_left = 0; count = 0 }) (Over (Alarm alarm place 0)) 0 0 → g ≡ refused_with alarm place
refused_so alarm place e k =
    k ∙ ap (λ (s : State). standing_at (frame_at (record { number = 0; line = 0 }) most_calls 0) (record { state = s; blocks_left = 0; count = 0 }) (Over (Alarm alarm place 0)) 0 0) e

module _ (tape : List ℕ) (set : Settings) (filled : ℕ) {found sought : Found} (is : found ≡ sought) where
  pub begun_missing : found ≡ Nowhere → {g : Going} → g ≡ refused_with program_missing 0 → g ≡ begun_at tape set filled sought
  unfolding begun_at
  begun_missing h k = k ∙ ap (begun_at tape set filled) (sym h ∙ is)

  pub begun_found : (p : ℕ) → found ≡ At p → {line : ℕ} → line ≡ within_of (length tape) p → {f : Frame} → f ≡ entry_of tape (main_at set line) most_calls → {r : Run} → r ≡ start_of set
      → {g : Going} → g ≡ standing_at f r Running (length tape) filled → g ≡ begun_at tape set filled sought
  unfolding begun_at
  begun_found p h at entry start k =
      k ∙ (λ i. standing_at (entry i) (start i) Running (length tape) filled) ∙ (λ i. standing_at (entry_of tape (main_at set (at i)) most_calls) (start_of set) Running (length tape) filled)
      ∙ ap (begun_at tape set filled) (sym h ∙ is)
