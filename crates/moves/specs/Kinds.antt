-- The kinds of records. 01: "Kinds: 1 rapid (0), 2 feed (F; flag 1 for G95), 3 thread (pitch), 4 dwell (tenths of a second), 5 tool (T), 6 M (number),
-- 7 speed (S; flag 2 for G96). Other flags are 0."
use Rattle.std.specs.Prelude.{Bool, cond, not, ◌||◌, ℕ, eqb, ℤ}
use Rattle.moves.specs.declared.Record.{Record}

-- ---- their numbers, and 02's: "kinds 8 and 9 are as kind 2 with the end point, and a following record, kind 10, carries the centre" (request 4)
abbrev pub rapid_kind : ℕ
rapid_kind = 1

abbrev pub feed_kind : ℕ
feed_kind = 2

abbrev pub thread_kind : ℕ
thread_kind = 3

abbrev pub dwell_kind : ℕ
dwell_kind = 4

abbrev pub tool_kind : ℕ
tool_kind = 5

abbrev pub miscellaneous_kind : ℕ
miscellaneous_kind = 6

abbrev pub speed_kind : ℕ
speed_kind = 7

abbrev pub clockwise_kind : ℕ
clockwise_kind = 8

abbrev pub counterclockwise_kind : ℕ
counterclockwise_kind = 9

abbrev pub centre_kind : ℕ
centre_kind = 10

-- an arc, and the centre behind it
abbrev pub is_arc : ℕ → Bool
is_arc kind = eqb kind clockwise_kind || eqb kind counterclockwise_kind

abbrev pub is_centre : ℕ → Bool
is_centre kind = eqb kind centre_kind

-- 02: "10 after each 8 or 9 and nowhere else": where the record before is an arc a centre is due, and elsewhere none
abbrev pub in_turn : Bool → ℕ → Bool
in_turn due kind = cond due (is_centre kind) (not (is_centre kind))

-- "flag 1 for G95", "flag 2 for G96"
abbrev pub flag_g95 : ℕ
flag_g95 = 1

abbrev pub flag_g96 : ℕ
flag_g96 = 2

-- ---- the records
abbrev pub flagged : ℕ → ℕ → ℤ → ℤ → ℕ → Record
flagged k f x z v = record { kind = k; flags = f; x = x; z = z; value = v }

abbrev pub plain : ℕ → ℤ → ℤ → ℕ → Record
plain k x z v = flagged k 0 x z v

abbrev pub rapid : ℤ → ℤ → Record
rapid x z = plain rapid_kind x z 0

-- the last: whether G95 is in force
abbrev pub feed : ℤ → ℤ → ℕ → Bool → Record
feed x z f g95 = flagged feed_kind (cond g95 flag_g95 0) x z f

abbrev pub thread : ℤ → ℤ → ℕ → Record
thread x z pitch = plain thread_kind x z pitch

abbrev pub dwell : ℤ → ℤ → ℕ → Record
dwell x z tenths = plain dwell_kind x z tenths

abbrev pub tool : ℤ → ℤ → ℕ → Record
tool x z t = plain tool_kind x z t

abbrev pub miscellaneous : ℤ → ℤ → ℕ → Record
miscellaneous x z m = plain miscellaneous_kind x z m

-- the last: whether G96 is in force
abbrev pub speed : ℤ → ℤ → ℕ → Bool → Record
speed x z s g96 = flagged speed_kind (cond g96 flag_g96 0) x z s

-- 02: "kinds 8 and 9 are as kind 2 with the end point". The first: whether it is clockwise; the last: whether G95 is in force
abbrev pub arc : Bool → ℤ → ℤ → ℕ → Bool → Record
arc clockwise x z f g95 = flagged (cond clockwise clockwise_kind counterclockwise_kind) (cond g95 flag_g95 0) x z f

-- "a following record, kind 10, carries the centre, value 0, and moves nothing"
abbrev pub centre : ℤ → ℤ → Record
centre x z = plain centre_kind x z 0
