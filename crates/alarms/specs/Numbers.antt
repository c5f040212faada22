-- 01, "Alarms and their order": the numbers, once. 8, "more than 10,000 blocks in a program", is none of them: 02 takes it out, and "its number is not used again".
use Rattle.std.specs.Prelude.{ℕ}

-- "table not 208 numbers, a number out of range, lowest limit above highest, start outside limits, lowest subroutine above 255, main above 6999 or from lowest subroutine to 255"
abbrev pub bad_settings : ℕ
bad_settings = 1

-- "tape above 65,535 bytes"
abbrev pub tape_too_long : ℕ
tape_too_long = 2

-- "buffer under 8 bytes"
abbrev pub buffer_too_short : ℕ
buffer_too_short = 3

-- "no `%` or `O`"
abbrev pub no_program : ℕ
no_program = 4

-- "unknown byte or address, bad or too long number, D above 32,767, open comment, lone CR even in a comment"
abbrev pub bad_byte_or_number : ℕ
bad_byte_or_number = 5

-- "line starts with another word, program number repeated or above 6999, block number repeated in its program"
abbrev pub bad_line_start : ℕ
bad_line_start = 6

-- "line above 160 bytes, comments counted, line end not (001: alarm 650)"
abbrev pub line_too_long : ℕ
line_too_long = 7

-- "word rules"
abbrev pub word_rules : ℕ
word_rules = 9

-- "main missing; called number outside lowest subroutine to 255 (001: alarm 630) or missing"
abbrev pub program_missing : ℕ
program_missing = 10

-- "jump target missing"
abbrev pub block_missing : ℕ
block_missing = 11

-- "eleventh call deep"
abbrev pub too_deep : ℕ
too_deep = 12

-- "block 20,001 begun"
abbrev pub too_many_begun : ℕ
too_many_begun = 13

-- "M17 in the main program, M30 in a subprogram, program ends without either"
abbrev pub wrong_end : ℕ
wrong_end = 14

-- "path word with no motion function"
abbrev pub no_motion : ℕ
no_motion = 15

-- "first traverse not G00"
abbrev pub not_rapid : ℕ
not_rapid = 16

-- "F missing or out of range"
abbrev pub bad_feed : ℕ
bad_feed = 17

-- "a move ends outside the limits"
abbrev pub outside_limits : ℕ
outside_limits = 18

-- "cycle lengths, directions or tool width"
abbrev pub bad_lengths : ℕ
bad_lengths = 19

-- "records above 4,000 or above the buffer"
abbrev pub no_room : ℕ
no_room = 20

-- 02: "a setting turns missing points into an alarm for X Z U W"
abbrev pub missing_point : ℕ
missing_point = 21

-- 02: "a table shorter than these lines is 22"
abbrev pub places_too_short : ℕ
places_too_short = 22
