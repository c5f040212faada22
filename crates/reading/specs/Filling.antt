-- READING WITH A LENT TABLE OF PLACES. 02, request 8: "While reading, fill a lent table of the places of program lines and their blocks, by program, its line first, then by number".
-- "After any answer it holds those lines read and accepted, and its other entries are as they came." "a table shorter than these lines is 22, after 9 on the line that overflows it".
use Rattle.std.specs.Prelude.{◌≡◌, Bool, cond, List, [], ◌∷◌, ◌++◌, ℕ, leb, ltb, eqb, length, drop}
use Rattle.alarms.specs.Numbers.{places_too_short}
use Rattle.alarms.specs.Numbers as alarms
use Rattle.places.specs.Places.{line_key, block_key, entry_of, inserted}
use Rattle.places.specs.Lines.{no_program}
use Rattle.tape.specs.Lines.{seek_from, opens_tape, Text, lines}
use Rattle.showing.specs.Showing.{judged}
use Rattle.showing.specs.declared.Judged.{Judged}
use Rattle.block.specs.declared.Head.{Head}
use Rattle.block.specs.declared.Head.TheVariants.{Blank, ProgramLine, BlockLine, Other}
use Rattle.reading.specs.Reading.{History, nothing_read, line_alarm, noted, ends_with, number_of, place_of}
use Rattle.reading.specs.declared.Read.{Read}
use Rattle.reading.specs.declared.Read.TheVariants.{Whole, Alarm}
use Rattle.reading.specs.declared.TapeRead.{TapeRead}

-- what the table holds of the lines that were read so far, in the order of the table: its row of entries; and the number of the present program
pub record Filled : Type 0 where
  pub present : ℕ
  pub row : List ℕ

abbrev pub nothing_filled : Filled
nothing_filled = record { present = no_program; row = [] }

-- with one line more, which stands at a place: an entry for a program's line and for a block
unfoldable pub filed : Filled → Head → ℕ → Filled
filed f (ProgramLine n) place = record { present = n; row = inserted (entry_of (line_key n) place) f.row }
filed f (BlockLine n) place = record { present = f.present; row = inserted (entry_of (block_key f.present n) place) f.row }
filed f Blank place = f
filed f (Other lacks) place = f

-- 22, 0 for none: a line that has an entry finds a table of `size` entries full
unfoldable pub room_alarm : ℕ → List ℕ → Head → ℕ
room_alarm size row (ProgramLine n) = cond (leb size (length row)) places_too_short 0
room_alarm size row (BlockLine n) = cond (leb size (length row)) places_too_short 0
room_alarm size row Blank = 0
room_alarm size row (Other lacks) = 0

-- a line's alarm: 7, 5, 21, 6 or 9, which have nothing to do with the table, else 22, else 0
unfoldable pub alarm_with : Bool → ℕ → History → Filled → Judged → ℕ
alarm_with points size h f j = cond (eqb (line_alarm points h j) 0) (room_alarm size f.row j.head) (line_alarm points h j)

-- what came of reading, and the row of the table behind it
pub record Readings : Type 0 where
  pub read : Read
  pub row : List ℕ

-- as the code tells it: with the number of entries
abbrev pub told : Readings → TapeRead
told x = record { read = x.read; count = length x.row }

-- and so with 01's number and place
pub record Tells (r : TapeRead) (x : Readings) : Type 0 where
  pub is : r ≡ told x
  pub number : number_of r.read ≡ number_of x.read
  pub place : place_of r.read ≡ place_of x.read

-- one line, with the row in front of it and with it, and what the lines behind it give: a refused line has no entry
abbrev pub after_line_with : ℕ → ℕ → Bool → Text → List ℕ → List ℕ → Readings → Readings
after_line_with first alarm ends t before with rest =
    cond (eqb alarm 0) (cond ends (record { read = Whole first t.after; row = with }) rest) (record { read = Alarm alarm t.place; row = before })

-- the lines one after the other, with points asked for or not; the tape ends at `end`, and the table has `size` entries
unfoldable pub read_lines_with : Bool → ℕ → ℕ → ℕ → History → Filled → List Text → Readings
read_lines_with points size first end h f [] = record { read = Whole first end; row = f.row }
read_lines_with points size first end h f (t ∷ ts) =
    let j = judged t.bytes in
    let g = filed f j.head t.place in
    after_line_with first (alarm_with points size h f j) (ends_with j.head j.ends) t f.row g.row (read_lines_with points size first end (noted h j.head) g ts)

-- A TAPE, READ WITH A TABLE OF SO MANY ENTRIES: alarm 4, "no `%` or `O`", or its lines from the first
unfoldable pub read_with : Bool → ℕ → List ℕ → Readings
read_with points size s =
    let first = seek_from opens_tape s 0 in
    cond (ltb first (length s)) (read_lines_with points size first (length s) nothing_read nothing_filled (lines s first)) (record { read = Alarm alarms.no_program 0; row = [] })

-- THE LINES READ AND ACCEPTED: those before the first that is refused, and none behind the end of reading
unfoldable pub accepted_lines : Bool → ℕ → History → Filled → List Text → List Text
accepted_lines points size h f [] = []
accepted_lines points size h f (t ∷ ts) =
    let j = judged t.bytes in
    cond (eqb (alarm_with points size h f j) 0)
    (cond (ends_with j.head j.ends) (t ∷ []) (t ∷ accepted_lines points size (noted h j.head) (filed f j.head t.place) ts)) []

unfoldable pub accepted_of : Bool → ℕ → List ℕ → List Text
accepted_of points size s =
    let first = seek_from opens_tape s 0 in
    cond (ltb first (length s)) (accepted_lines points size nothing_read nothing_filled (lines s first)) []

-- the table behind it: the row, and "its other entries are as they came"
abbrev pub places_behind : List ℕ → List ℕ → List ℕ
places_behind row places = row ++ drop (length row) places

-- so many entries every tape can do with: a program's line and a block have three bytes at least, the end of the line counted, and a tape has 65,535
abbrev pub most_places : ℕ
most_places = 21_845
