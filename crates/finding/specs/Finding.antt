-- Searches along the lines of a tape. 01: "Running a program runs its blocks"; alarm 10: "main missing; called number .. missing"; "G27 goes to the block numbered L of the same program",
-- alarm 11. A program ends where the next one begins or where the lines end.
use Rattle.std.specs.Prelude.{◌≡◌, cond, List, [], ◌∷◌, ℕ, ◌+◌, ◌<◌, ◌≤◌, eqb, length}
use Rattle.tape.specs.Lines.{Text, text_at, line_at, lines}
use Rattle.block.specs.Words.{head_of, start_of}
use Rattle.block.specs.declared.Head.{Head}
use Rattle.block.specs.declared.Head.TheVariants.{Blank, ProgramLine, BlockLine, Other}
use Rattle.block.specs.declared.LineStart.{LineStart}
use Rattle.block.specs.declared.LineStart.TheVariants as start
use Rattle.finding.specs.declared.BlockAt.{BlockAt}
use Rattle.finding.specs.declared.NextBlock.{NextBlock}
use Rattle.finding.specs.declared.NextBlock.TheVariants as next
use Rattle.finding.specs.declared.Here.{Here}
use Rattle.finding.specs.declared.Here.TheVariants.{Is, Ends, On}
use Rattle.places.specs.declared.Found.{Found}
use Rattle.places.specs.declared.Found.TheVariants.{At, Nowhere}

-- what is sought: the line of a program, the block of a number, or the next block
pub data Sought : Type 0 where
  Program : ℕ → Sought
  Block : ℕ → Sought
  AnyBlock : Sought

-- what a line is to a search, by how it begins: the one that is sought, one that ends the search, or one to be passed. A search for a block ends with its program. (A line that was read begins
-- with no other word.)
unfoldable pub here_of : Sought → Head → Here
here_of (Program n) (ProgramLine k) = cond (eqb k n) Is On
here_of (Program n) (BlockLine k) = On
here_of (Program n) Blank = On
here_of (Program n) (Other lacks) = On
here_of (Block n) (ProgramLine k) = Ends
here_of (Block n) (BlockLine k) = cond (eqb k n) Is On
here_of (Block n) Blank = On
here_of (Block n) (Other lacks) = On
here_of AnyBlock (ProgramLine k) = Ends
here_of AnyBlock (BlockLine k) = Is
here_of AnyBlock Blank = On
here_of AnyBlock (Other lacks) = On

-- one line, with what the lines behind it give
unfoldable pub found_by : Here → ℕ → Found → Found
found_by Is place rest = At place
found_by Ends place rest = Nowhere
found_by On place rest = rest

-- the place of the line that is sought among some lines
unfoldable pub seek_line : Sought → List Text → Found
seek_line w [] = Nowhere
seek_line w (t ∷ ts) = found_by (here_of w (head_of t.bytes)) t.place (seek_line w ts)

-- the line of the program n
abbrev pub find_program : ℕ → List Text → Found
find_program n ts = seek_line (Program n) ts

-- the next block line of a program
abbrev pub first_block : List Text → Found
first_block ts = seek_line AnyBlock ts

-- the place of the block n of the program whose line stands at `program`: all lines behind the program line are searched
unfoldable pub block_of_program : ℕ → List ℕ → ℕ → Found
block_of_program n tape program = seek_line (Block n) (lines tape (line_at tape program).after)

-- the number of a block line, by how it begins. (No other line is asked.)
abbrev pub block_number : Head → ℕ
block_number (BlockLine n) = n
block_number (ProgramLine n) = 0
block_number Blank = 0
block_number (Other lacks) = 0

-- the number of the block line at a place of the tape
abbrev pub block_number_at : List ℕ → ℕ → ℕ
block_number_at tape p = block_number (head_of (text_at tape p).bytes)

-- the next block line as it is found: its place, its number, the place in its text behind its first word, where the text ends, and where the next line begins
abbrev pub behind_start : LineStart → ℕ
behind_start (start.With h end) = end
behind_start start.Blank = 0
behind_start start.Fault = 0

abbrev pub block_at : List ℕ → ℕ → BlockAt
block_at tape p = record { at = p; number = block_number_at tape p; behind = behind_start (start_of (text_at tape p).bytes); stop = (line_at tape p).stop; after = (line_at tape p).after }

unfoldable pub next_block : List ℕ → Found → NextBlock
next_block tape (At p) = next.At (block_at tape p)
next_block tape Nowhere = next.Nowhere

-- what is known of it: it stands on the tape, and starts with its block number, which has four digits
pub record BlockIn (tape : List ℕ) (l : BlockAt) : Type 0 where
  pub starts : start_of (text_at tape l.at).bytes ≡ start.With (BlockLine l.number) l.behind
  pub small : l.number < 10_000
  pub on : l.at ≤ length tape
  pub begins : l.at + l.behind ≤ l.stop
  pub text : l.stop ≤ length tape
  pub ends : l.after ≤ length tape

abbrev pub NextIn : List ℕ → NextBlock → Type 0
NextIn tape (next.At l) = BlockIn tape l
NextIn tape next.Nowhere = Unit {0}
