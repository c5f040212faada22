-- THE WORDS THAT A RUN IS LAID INTO, each at the place where `going_of` (Taken.antt) looks for it, and what fits into them: every place and every count is below 2 ^ 32.
use Rattle.std.specs.Prelude.{◌≡◌, Bool, true, false, List, [], ◌∷◌, ◌++◌, ℕ, ◌^◌, ◌<◌, ℤ, length, get_or}
use Rattle.octets.specs.Bytes.{signed_bytes, value_of, signed_of, laid}
use Rattle.acts.specs.declared.Kept.{Kept}
use Rattle.acts.specs.declared.Kept.TheVariants.{Nothing, Of}
use Rattle.ahead.specs.Ahead.{most_calls}
use Rattle.ahead.specs.declared.Frame.{Frame}
use Rattle.paused.specs.of_taking.declared.Run.{Run}
use Rattle.paused.specs.of_answers.declared.Answer.TheVariants.{Complete, Alarm}
use Rattle.paused.specs.of_resuming.declared.Waiting.{Waiting}
use Rattle.paused.specs.declared.Phase.{Phase}
use Rattle.paused.specs.declared.Phase.TheVariants.{Running, Over}
use Rattle.paused.specs.declared.Going.{Going}
use Rattle.paused.specs.Kept.{nobody}
use Rattle.runwords.specs.Taken.{complete, stopped, tag_of, yes}

abbrev pub phase_words : Phase → List ℕ
phase_words Running = 0 ∷ 0 ∷ 0 ∷ 0 ∷ []
phase_words (Over (Complete count)) = complete ∷ 0 ∷ 0 ∷ count ∷ []
phase_words (Over (Alarm alarm place count)) = stopped ∷ alarm ∷ place ∷ count ∷ []

abbrev pub frame_words : Frame → List ℕ
frame_words f = f.program.number ∷ f.program.line ∷ f.calls_left ∷ f.at ∷ []

abbrev pub kept_tag : Kept → ℕ
kept_tag Nothing = 0
kept_tag (Of m) = tag_of m

abbrev pub yes_word : Bool → ℕ
yes_word true = yes
yes_word false = 0

-- in two's complement, as in the records of a list
abbrev pub signed_word : ℤ → ℕ
signed_word z = value_of (signed_bytes z)

abbrev pub run_words : Run → List ℕ
run_words r =
    let s = r.state in
    r.blocks_left ∷ r.count ∷ kept_tag s.motion ∷ yes_word s.g96
    ∷ yes_word s.g95 ∷ s.shift_group3 ∷ s.shift_group5 ∷ s.correction
    ∷ s.f ∷ yes_word s.rapid_due ∷ signed_word s.x ∷ signed_word s.z ∷ []

-- X and Z are read back as they were
pub record ReadBack (r : Run) : Type 0 where
  pub x : signed_of (signed_word r.state.x) ≡ r.state.x
  pub z : signed_of (signed_word r.state.z) ≡ r.state.z

abbrev pub words_of : Waiting → List ℕ
words_of p = p.program.number ∷ p.program.line ∷ p.after ∷ p.times ∷ []

abbrev pub all_words : List Waiting → List ℕ
all_words [] = []
all_words (p ∷ ps) = words_of p ++ all_words ps

-- a part is put at its place: all other words are as they came, and as many
pub record Put (before : List ℕ) (from : ℕ) (part after : List ℕ) : Type 0 where
  pub is : after ≡ laid before from part
  pub long : length after ≡ length before

-- ---- what fits into the words
abbrev pub word_range : ℕ
word_range = 2 ^ 32

abbrev pub SmallPhase : Phase → Type 0
SmallPhase Running = Unit {0}
SmallPhase (Over (Complete count)) = count < word_range
SmallPhase (Over (Alarm alarm place count)) = (place < word_range) × (count < word_range)

pub record SmallWaiting (p : Waiting) : Type 0 where
  pub line : p.program.line < word_range
  pub after : p.after < word_range

pub record Small (g : Going) : Type 0 where
  pub phase : SmallPhase g.phase
  pub end : g.end < word_range
  pub filled : g.filled < word_range
  pub line : g.frame.program.line < word_range
  pub at : g.frame.at < word_range
  pub count : g.run.count < word_range
  pub waiting : (k : ℕ) → k < most_calls → SmallWaiting (get_or g.waiting k nobody)
