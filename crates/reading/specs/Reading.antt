-- 01, "Alarms and their order": "then lines from the front, each 7, 5, 6, 8, 9". (02 takes 8 out, and puts 21 "after 5 and before 6 on its line".) Alarm 6: "line starts with another word, program number repeated or above 6999,
-- block number repeated in its program". "Reading ends after a line whose last word is M30 (001)." This is the reading of the first layout, which knows no table of places; what 02 adds to it
-- stands in Filling.antt.
use Rattle.std.specs.Prelude.{Bool, false, cond, ◌&&◌, ◌||◌, List, [], ◌∷◌, ℕ, ltb, eqb, length}
use Rattle.alarms.specs.Numbers.{no_program, bad_line_start, word_rules, missing_point}
use Rattle.settings.specs.Wrong.{highest_program}
use Rattle.whole.specs.Among.{among}
use Rattle.tape.specs.Lines.{seek_from, opens_tape, Text, lines}
use Rattle.showing.specs.Showing.{judged}
use Rattle.showing.specs.declared.Judged.{Judged}
use Rattle.block.specs.declared.Head.{Head}
use Rattle.block.specs.declared.Head.TheVariants.{Blank, ProgramLine, BlockLine, Other}
use Rattle.reading.specs.declared.Read.{Read}
use Rattle.reading.specs.declared.Read.TheVariants.{Whole, Alarm}

-- "tape above 65,535 bytes" is alarm 2, and is not read
abbrev pub longest_tape : ℕ
longest_tape = 65_535

-- what was read so far: the program numbers, and the block numbers of the present program
pub record History : Type 0 where
  pub programs : List ℕ
  pub blocks : List ℕ

abbrev pub nothing_read : History
nothing_read = record { programs = []; blocks = [] }

-- alarms 6 and 9 of a line, in this order; 0 for none. The last argument: whether the line breaks a word rule
unfoldable pub head_alarm : History → Head → Bool → ℕ
head_alarm h Blank broken = 0
head_alarm h (Other lacks) broken = bad_line_start
head_alarm h (ProgramLine n) broken = cond (ltb highest_program n || among n h.programs) bad_line_start (cond broken word_rules 0)
head_alarm h (BlockLine n) broken = cond (among n h.blocks) bad_line_start (cond broken word_rules 0)

-- a line's alarm: 7 or 5, which it shows by itself, else 21 where points are asked for, else 6 or 9, else 0. 21 is asked of every line, of one that begins with another word too
unfoldable pub line_alarm : Bool → History → Judged → ℕ
line_alarm points h j = cond (eqb j.alarm 0) (cond (points && j.pointless) missing_point (head_alarm h j.head j.broken)) j.alarm

-- what was read, with one line more
unfoldable pub noted : History → Head → History
noted h Blank = h
noted h (Other lacks) = h
noted h (ProgramLine n) = record { programs = n ∷ h.programs; blocks = [] }
noted h (BlockLine n) = record { programs = h.programs; blocks = n ∷ h.blocks }

-- reading ends with a block line whose last word is M30. (Any other line that ends with M30 has an alarm.)
unfoldable pub ends_with : Head → Bool → Bool
ends_with (BlockLine n) ends = ends
ends_with Blank ends = false
ends_with (Other lacks) ends = false
ends_with (ProgramLine n) ends = false

-- one line, with what the lines behind it give
abbrev pub after_line : ℕ → ℕ → Bool → Text → Read → Read
after_line first alarm ends t rest = cond (eqb alarm 0) (cond ends (Whole first t.after) rest) (Alarm alarm t.place)

-- the lines one after the other, with points asked for or not; the tape ends at `end`
unfoldable pub read_lines : Bool → ℕ → ℕ → History → List Text → Read
read_lines points first end h [] = Whole first end
read_lines points first end h (t ∷ ts) =
    let j = judged t.bytes in
    after_line first (line_alarm points h j) (ends_with j.head j.ends) t (read_lines points first end (noted h j.head) ts)

-- a tape: alarm 4, "no `%` or `O`", or its lines from the first
unfoldable pub read_of : Bool → List ℕ → Read
read_of points s =
    let first = seek_from opens_tape s 0 in
    cond (ltb first (length s)) (read_lines points first (length s) nothing_read (lines s first)) (Alarm no_program 0)

-- ---- 01's number and place for each case of what comes of reading; both are 0 where a tape was read whole
abbrev pub number_of : Read → ℕ
number_of (Whole first end) = 0
number_of (Alarm n place) = n

abbrev pub place_of : Read → ℕ
place_of (Whole first end) = 0
place_of (Alarm n place) = place
