-- WHERE A RUN STANDS, AS WORDS: each number has its place. Any words are some run that goes on or is over; what is no tag is that of a run that goes on, or of no motion.
use Rattle.std.specs.Prelude.{Bool, cond, List, [], ◌∷◌, ℕ, zero, suc, ◌+◌, ◌*◌, ◌%◌, eqb, get_or}
use Rattle.octets.specs.Bytes.{signed_of}
use Rattle.codes.specs.declared.Motion.{Motion}
use Rattle.codes.specs.declared.Motion.TheVariants as motion
use Rattle.acts.specs.declared.Kept.{Kept}
use Rattle.acts.specs.declared.Kept.TheVariants.{Nothing, Of}
use Rattle.state.specs.declared.State.{State}
use Rattle.ahead.specs.Ahead.{most_calls}
use Rattle.ahead.specs.declared.Frame.{Frame}
use Rattle.paused.specs.of_taking.declared.Run.{Run}
use Rattle.paused.specs.of_answers.declared.Answer.TheVariants.{Complete, Alarm}
use Rattle.paused.specs.of_resuming.declared.Waiting.{Waiting}
use Rattle.paused.specs.declared.Phase.{Phase}
use Rattle.paused.specs.declared.Phase.TheVariants.{Running, Over}
use Rattle.paused.specs.declared.Going.{Going}

-- the words: 4 of what the run has come to, 2 of the tape, 4 of the frame, 12 of the run, and 4 of each of the ten programs that may wait
abbrev pub going_words : ℕ
going_words = 62

abbrev pub word : List ℕ → ℕ → ℕ
word w k = get_or w k 0

-- ---- what the run has come to: its tag, the alarm, the place, the count
abbrev pub complete : ℕ
complete = 1

abbrev pub stopped : ℕ
stopped = 2

unfoldable pub phase_by : ℕ → ℕ → ℕ → ℕ → Phase
phase_by tag alarm place count = cond (eqb tag complete) (Over (Complete count)) (cond (eqb tag stopped) (Over (Alarm (alarm % 256) place count)) Running)

abbrev pub phase_of : List ℕ → Phase
phase_of w = phase_by (word w 0) (word w 1) (word w 2) (word w 3)

-- ---- how far the tape is read, and how much of the table of places is the tape's
abbrev pub end_from : ℕ
end_from = 4

-- ---- the frame: program, its line, the calls that are left, the place
abbrev pub frame_from : ℕ
frame_from = 6

abbrev pub frame_of : List ℕ → Frame
frame_of w =
    record { program = record { number = word w frame_from; line = word w (frame_from + 1) }; calls_left = word w (frame_from + 2); at = word w (frame_from + 3) }

-- ---- the run: the blocks that are left, the records that were made, and what is kept between blocks
abbrev pub run_from : ℕ
run_from = 10

abbrev pub tag_of : Motion → ℕ
tag_of motion.Rapid = 1
tag_of motion.Feed = 2
tag_of motion.Clockwise = 3
tag_of motion.Counterclockwise = 4
tag_of motion.Thread = 5
tag_of motion.Dwell = 6
tag_of motion.Turning = 7
tag_of motion.Threading = 8
tag_of motion.Grooving = 9
tag_of motion.ChipBreaking = 10
tag_of motion.Redrawing = 11

abbrev pub motions : List Motion
motions =
    motion.Rapid ∷ motion.Feed ∷ motion.Clockwise ∷ motion.Counterclockwise ∷ motion.Thread ∷ motion.Dwell ∷ motion.Turning ∷ motion.Threading ∷ motion.Grooving ∷ motion.ChipBreaking
    ∷ motion.Redrawing ∷ []

-- the motion that has the tag
abbrev pub motion_in : List Motion → ℕ → Kept
motion_in [] tag = Nothing
motion_in (m ∷ ms) tag = cond (eqb tag (tag_of m)) (Of m) (motion_in ms tag)

unfoldable pub motion_of : ℕ → Kept
motion_of tag = motion_in motions tag

abbrev pub yes : ℕ
yes = 1

abbrev pub is_yes : ℕ → Bool
is_yes n = eqb n yes

abbrev pub state_of : List ℕ → State
state_of w = record {
  motion = motion_of (word w (run_from + 2));
  g96 = is_yes (word w (run_from + 3));
  g95 = is_yes (word w (run_from + 4));
  shift_group3 = word w (run_from + 5);
  shift_group5 = word w (run_from + 6);
  correction = word w (run_from + 7);
  f = word w (run_from + 8);
  rapid_due = is_yes (word w (run_from + 9));
  x = signed_of (word w (run_from + 10));
  z = signed_of (word w (run_from + 11));
}

abbrev pub run_of : List ℕ → Run
run_of w = record { state = state_of w; blocks_left = word w run_from; count = word w (run_from + 1) }

-- ---- the programs that wait: program, its line, the place to go on, how often the called program is still to run
abbrev pub waiting_from : ℕ
waiting_from = 22

abbrev pub waiting_words : ℕ
waiting_words = 4

abbrev pub waiting_in : List ℕ → ℕ → Waiting
waiting_in w from = record { program = record { number = word w from; line = word w (from + 1) }; after = word w (from + 2); times = word w (from + 3) }

abbrev pub waiting_at : List ℕ → ℕ → Waiting
waiting_at w k = waiting_in w (waiting_from + k * waiting_words)

-- n of them, from number k on
abbrev pub waiting_on : List ℕ → ℕ → ℕ → List Waiting
waiting_on w k zero = []
waiting_on w k (suc n) = waiting_at w k ∷ waiting_on w (suc k) n

abbrev pub waiting_of : List ℕ → List Waiting
waiting_of w = waiting_on w 0 most_calls

-- ---- all of it
unfoldable pub going_of : List ℕ → Going
going_of w = record { frame = frame_of w; run = run_of w; waiting = waiting_of w; phase = phase_of w; end = word w end_from; filled = word w (end_from + 1) }
