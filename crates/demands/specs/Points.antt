-- MISSING POINTS (02, request 3), as two statements about every tape, table, settings and buffer; proofs/Points.antt has their proofs. 02: "a setting turns missing points into an alarm for
-- X Z U W. Zero without a point stays allowed. With the setting off all lists are as before."
use Rattle.std.specs.Prelude.{◌≡◌, true, false, List, [], ◌∷◌, ℕ, ℤ, length}
use Rattle.alarms.specs.Numbers.{missing_point}
use Rattle.settings.specs.Points.{with_points}
use Rattle.settings.specs.declared.Settings.{Settings}
use Rattle.tape.specs.Lines.{seek_from, opens_tape, Text, lines}
use Rattle.addresses.specs.Words.{Words, word, ended, faulty, lacks_point, words_from}
use Rattle.interpreter.specs.of_answers.declared.Answer.TheVariants.{Alarm}
use Rattle.interpreter.specs.Answers.{answer_of, places_of, buffer_of}

-- with the setting off, nothing gives 21
abbrev pub OffNo21 : List ℕ → List ℤ → Settings → ℕ → List ℕ → Type 0
OffNo21 tape table set size b = set.points ≡ false → (place count : ℕ) → answer_of tape table set size (length b) ≡ Alarm missing_point place count → ⊥

-- no X Z U W number of a row of words lacks its point, zero aside
abbrev pub WordsPointed : Words → Type 0
WordsPointed (word w ws) = (lacks_point w ≡ false) × WordsPointed ws
WordsPointed ended = Unit {0}
WordsPointed faulty = Unit {0}

-- none of some lines
unfoldable pub LinesPointed : List Text → Type 0
LinesPointed [] = Unit {0}
LinesPointed (t ∷ ts) = WordsPointed (words_from t.bytes 0) × LinesPointed ts

-- none of a tape, from its first line on
abbrev pub Pointed : List ℕ → Type 0
Pointed tape = LinesPointed (lines tape (seek_from opens_tape tape 0))

-- a tape in which none lacks its point gives the same answer, the same table of places and the same buffer with the setting on and off
abbrev pub PointsSame : List ℕ → List ℤ → Settings → List ℕ → List ℕ → Type 0
PointsSame tape table set places b =
    Pointed tape → let on = with_points true set in
    let off = with_points false set in
    let size = length places in
    (answer_of tape table on size (length b) ≡ answer_of tape table off size (length b))
    × (places_of tape table on places (length b) ≡ places_of tape table off places (length b))
    × (buffer_of tape table on size b ≡ buffer_of tape table off size b)
