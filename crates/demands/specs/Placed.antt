-- The lines that are read and accepted, and the entries that a table of places has for them. 02, request 8: "a lent table of the places of program lines and their blocks".
use Rattle.std.specs.Prelude.{◌≡◌, cond, List, [], ◌∷◌, ℕ, ◌≤◌, ltb, ℤ, length}
use Rattle.alarms.specs.Numbers.{places_too_short}
use Rattle.moves.specs.Form.{header_size}
use Rattle.places.specs.Places.{line_key, block_key, entry_of}
use Rattle.tape.specs.Lines.{Text}
use Rattle.block.specs.Words.{head_of}
use Rattle.block.specs.declared.Head.{Head}
use Rattle.block.specs.declared.Head.TheVariants.{Blank, ProgramLine, BlockLine, Other}
use Rattle.reading.specs.Filling.{accepted_of, most_places}
use Rattle.settings.specs.Wrong.{settings_wrong}
use Rattle.settings.specs.declared.Settings.{Settings}
use Rattle.interpreter.specs.of_answers.declared.Answer.TheVariants.{Alarm}
use Rattle.interpreter.specs.Answers.{longest_tape, first_interpretation, interpretation, answer_of}

-- the lines that are read and accepted: none where 1 to 3 come before
unfoldable pub accepted_in : List ℕ → List ℤ → Settings → ℕ → ℕ → List Text
accepted_in tape table set size bytes =
    cond (settings_wrong table set) [] (cond (ltb longest_tape (length tape)) [] (cond (ltb bytes header_size) [] (accepted_of set.points size tape)))

-- a line by how it begins, in the program p: an entry for a program's line and for a block, and then those of the lines behind it
abbrev pub entries_by : ℕ → Head → ℕ → (ℕ → List ℕ) → List ℕ
entries_by p (ProgramLine n) place rest = entry_of (line_key n) place ∷ rest n
entries_by p (BlockLine n) place rest = entry_of (block_key p n) place ∷ rest p
entries_by p Blank place rest = rest p
entries_by p (Other lacks) place rest = rest p

-- the entries of some lines, in the order of the text; the first argument: the present program in front of them
unfoldable pub entries_of : ℕ → List Text → List ℕ
entries_of p [] = []
entries_of p (t ∷ ts) = entries_by p (head_of t.bytes) t.place (λ q. entries_of q ts)

-- "Prove that each finding equals the first layout's walk along the tape, so all lists and alarms stay": of every tape, table, settings, length of the table of places and length of the buffer. The answer and the steps, of which
-- the buffer is laid, are those of the first layout, which knows no such table: unless the answer is 22, and always where the table has as many entries as every tape can do with
pub record ListsStay (tape : List ℕ) (table : List ℤ) (set : Settings) (size bytes : ℕ) : Type 0 where
  pub unless : ((place count : ℕ) → answer_of tape table set size bytes ≡ Alarm places_too_short place count → ⊥) → interpretation tape table set size bytes ≡ first_interpretation tape table set bytes
  pub enough : most_places ≤ size → interpretation tape table set size bytes ≡ first_interpretation tape table set bytes
