-- WHICH BLOCK MADE THIS MOVE: demand 2 of the two fields at the end of every record. 02, request 7: "Each record ends with the 16-bit program number and block number it came from .. For a move inside a subprogram it is the
-- subprogram's block. .. Demand 2 covers the new fields." The numbers are read off the bytes of the buffer, and off the lines of the tape at the step's place: nothing here is taken from how a run keeps them.
use Rattle.std.specs.Prelude.{◌≡◌, Bool, true, false, List, ℕ, ℤ, length}
use Rattle.moves.specs.Form.{stamped}
use Rattle.moves.specs.Reading.{row_at}
use Rattle.tape.specs.Lines.{text_at, line_at, lines}
use Rattle.block.specs.Words.{head_of}
use Rattle.block.specs.declared.Head.{Head}
use Rattle.block.specs.declared.Head.TheVariants.{Blank, ProgramLine, BlockLine, Other}
use Rattle.finding.specs.Finding.{find_program}
use Rattle.places.specs.declared.Found.TheVariants.{At}
use Rattle.settings.specs.declared.Settings.{Settings}
use Rattle.interpreter.specs.of_taking.Steps.{Task, Step}
use Rattle.interpreter.specs.Answers.{interpretation, buffer_of}
use Rattle.demands.specs.Demands.{EachFrom, task}

-- a program line
abbrev pub is_program_line : Head → Bool
is_program_line (ProgramLine n) = true
is_program_line (BlockLine n) = false
is_program_line Blank = false
is_program_line (Other lacks) = false

-- the line at p is reached from the line at a, line after line, and no program line is passed on the way
pub data Reaches (tape : List ℕ) (p : ℕ) : ℕ → Type 0 where
  arrived : Reaches tape p p
  passing : {a : ℕ} → is_program_line (head_of (text_at tape a).bytes) ≡ false → Reaches tape p (line_at tape a).after → Reaches tape p a

-- a step's program and block, as they stand on the tape: the line at the step's place is a block line of that number; one of the tape's lines is the program line of that number, and it is the last
-- program line before the step's
pub record CameFrom (t : Task) (st : Step) : Type 0 where
  pub line : ℕ
  pub there : find_program st.origin.program (lines t.tape t.first) ≡ At line
  pub program : head_of (text_at t.tape line).bytes ≡ ProgramLine st.origin.program
  pub inside : Reaches t.tape st.place (line_at t.tape line).after
  pub block : head_of (text_at t.tape st.place).bytes ≡ BlockLine st.origin.block

-- a step in the buffer e, whose records stand there from number k on: each ends with the numbers of the step's program and block, which are those of the tape
pub record BlockNamed (t : Task) (e : List ℕ) (st : Step) (k : ℕ) : Type 0 where
  pub named : row_at e k (length st.records) ≡ stamped st.origin st.records
  pub came : CameFrom t st

-- DEMAND 2 OF THE NEW FIELDS, of every tape, table, settings, length of the table of places and buffer b: every record that stands in the buffer after the run, of a list and of an alarm, in the main program, in subprograms and
-- in repeats
abbrev pub EveryBlockNamed : List ℕ → List ℤ → Settings → ℕ → List ℕ → Type 0
EveryBlockNamed tape table set size b =
    EachFrom (BlockNamed (task tape table set size (length b)) (buffer_of tape table set size b)) 0 (interpretation tape table set size (length b)).steps
