-- THE LISTING. 01: "It prints mark, version and count, then kind, flags, X, Z and value for each record; on an alarm the word ALARM, number, place, count." 02, request 7: "the listing gains two
-- fields at the end of each record's line", the numbers of the program and of the block that the record came from.
-- Numbers are decimal. One space stands between two of them, and a line feed behind each line.
use Rattle.std.specs.Prelude.{Bool, cond, ◌&&◌, List, [], ◌∷◌, ◌++◌, ℕ, ◌+◌, ◌*◌, leb, length}
use Rattle.moves.specs.Form.{version, room_of}
use Rattle.moves.specs.Reading.{row_at}
use Rattle.moves.specs.declared.Listed.{Listed}
use Rattle.letters.specs.Letters.{lf, space}
use Rattle.letters.specs.Text.{bytes}
use Rattle.answers.specs.declared.Answer.{Answer}
use Rattle.answers.specs.declared.Answer.TheVariants.{Complete, Alarm}
use Rattle.decimal.specs.Decimal.{decimal, signed}

-- a line: a word and others behind it, with one space between two, and the line feed
abbrev pub line : List ℕ → List (List ℕ) → List ℕ
line w [] = w ++ (lf ∷ [])
line w (v ∷ vs) = (w ++ (space ∷ [])) ++ line v vs

-- "mark, version and count"
unfoldable pub head_line : ℕ → List ℕ
head_line count = line (bytes "TMV") (decimal version ∷ decimal count ∷ [])

-- "then kind, flags, X, Z and value for each record", and program and block
unfoldable pub record_line : Listed → List ℕ
record_line l =
    let r = l.what in
    line (decimal r.kind)
    (decimal r.flags ∷ signed r.x ∷ signed r.z ∷ decimal r.value ∷ decimal l.origin.program ∷ decimal l.origin.block ∷ [])

unfoldable pub record_lines : List Listed → List ℕ
record_lines [] = []
record_lines (l ∷ ls) = record_line l ++ record_lines ls

-- "on an alarm the word ALARM, number, place, count"
unfoldable pub alarm_line : ℕ → ℕ → ℕ → List ℕ
alarm_line alarm place count = line (bytes "ALARM") (decimal alarm ∷ decimal place ∷ decimal count ∷ [])

-- THE LISTING of an answer and of the buffer that came with it
unfoldable pub listing_of : Answer → List ℕ → List ℕ
listing_of (Complete count) list = head_line count ++ record_lines (row_at list 0 count)
listing_of (Alarm alarm place count) list = alarm_line alarm place count

-- the most bytes of each line: a byte has at most 3 digits, a number of 16 bits 5, one of 32 bits 10 and a sign, a place or a count 20
abbrev pub longest_head : ℕ
longest_head = 27

abbrev pub longest_record_line : ℕ
longest_record_line = 55

abbrev pub longest_alarm : ℕ
longest_alarm = 52

-- whether a listing is made: the buffer of the list can hold as many records as the answer counts, and there is room for the longest listing of so many
unfoldable pub is_made : Answer → ℕ → ℕ → Bool
is_made (Complete count) bytes room = leb count (room_of bytes) && leb (longest_head + longest_record_line * count) room
is_made (Alarm alarm place count) bytes room = leb longest_alarm room

-- the text that is written where there is so much room for it: the listing, or nothing
unfoldable pub text_of : Answer → List ℕ → ℕ → List ℕ
text_of answer list room = cond (is_made answer (length list) room) (listing_of answer list) []
