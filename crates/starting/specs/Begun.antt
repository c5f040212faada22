-- WHERE A RUN BEGINS, as the code has it: before the main program's first block, or over at once. What each of these is held to stands in Starts.antt.
use Rattle.std.specs.Prelude.{List, ℕ, pos, length, replicate}
use Rattle.alarms.specs.Numbers.{program_missing}
use Rattle.settings.specs.declared.Settings.{Settings}
use Rattle.places.specs.declared.Found.{Found}
use Rattle.places.specs.declared.Found.TheVariants.{At, Nowhere}
use Rattle.state.specs.Modal.{at_start}
use Rattle.ahead.specs.Ahead.{most_calls}
use Rattle.ahead.specs.declared.Frame.{Frame}
use Rattle.returning.specs.of_taking.declared.Run.{Run}
use Rattle.returning.specs.of_answers.Answers.{start_of}
use Rattle.returning.specs.of_answers.declared.Answer.TheVariants.{Alarm}
use Rattle.returning.specs.of_interpreter.Answers.{main_at}
use Rattle.returning.specs.of_resuming.Remains.{frame_at}
use Rattle.returning.specs.of_paused.Kept.{nobody}
use Rattle.returning.specs.of_paused.declared.Phase.{Phase}
use Rattle.returning.specs.of_paused.declared.Phase.TheVariants.{Running, Over}
use Rattle.returning.specs.of_paused.declared.Going.{Going}
use Rattle.returning.specs.Moving.{within_of, entry_of}

-- no program waits
abbrev pub standing_at : Frame → Run → Phase → ℕ → ℕ → Going
standing_at f r phase end filled = record { frame = f; run = r; waiting = replicate most_calls nobody; phase = phase; end = end; filled = filled }

-- an alarm before any block is begun: the run stands nowhere on the tape, and no block is left
abbrev pub nothing_left : Run
nothing_left = record { state = at_start (pos 0) (pos 0); blocks_left = 0; count = 0 }

abbrev pub refused_with : ℕ → ℕ → Going
refused_with alarm place = standing_at (frame_at (record { number = 0; line = 0 }) most_calls 0) nothing_left (Over (Alarm alarm place 0)) 0 0

-- the main program of a tape up to where its reading ended, which was looked for
unfoldable pub begun_at : List ℕ → Settings → ℕ → Found → Going
begun_at tape set filled Nowhere = refused_with program_missing 0
begun_at tape set filled (At p) = standing_at (entry_of tape (main_at set (within_of (length tape) p)) most_calls) (start_of set) Running (length tape) filled
