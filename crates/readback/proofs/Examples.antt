-- Lists judged and read, computed from the definitions.
-- Assumes nothing.
use mathlib.Core.Path.{◌≡◌, refl}
use mathlib.Core.Bool.{true, false}
use mathlib.Core.List.{List, [], ◌∷◌, ◌++◌}
use Prim.Native.Nat.{ℕ}
use lib.IntN.{pos}
use Rattle.octets.specs.Bytes.{signed_bytes, signed_of}
use Rattle.whole.specs.Position.{in_table}
use Rattle.whole.specs.Signed.{minus}
use Rattle.moves.specs.Form.{header_bytes, what_bytes, origin_bytes, record_bytes, row_bytes, list_bytes, listed, room_of}
use Rattle.moves.specs.Kinds.{flagged, plain, rapid, feed, miscellaneous}
use Rattle.moves.specs.Reading.{record_in, origin_in}
use Rattle.moves.specs.declared.Origin.{Origin}
use Rattle.moves.specs.declared.Listed.{Listed}
use Rattle.judging.specs.declared.Refusal.TheVariants.{BadMark, BadVersion, BadLength, BadIndex}
use Rattle.lawful.specs.Right.{flag_of, place_right, is_right, right_from}
use Rattle.judging.specs.Judging.{mark_wrong, length_wrong, records_every, spares_zero, records_wrong, judged_as, judged}
use Rattle.readback.specs.Lists.{found_at, read_of}
use Rattle.readback.specs.Laws.{first_header, first_row}
use Rattle.lawful.specs.declared.Version.TheVariants.{One, Two}
use Rattle.std.specs.Prelude.{Ok, Err}
use Rattle.std.specs.Prelude.{Some, None}

-- ---- an arc between a rapid and M30, of the second and of the third block of a subprogram and of a block of the main program
abbrev at : ℕ → ℕ → Origin
at program block = record { program = program; block = block }

abbrev arc : List Listed
arc = listed (at 80 20) (rapid (pos 40000) (pos 2000)) ∷ listed (at 80 30) (flagged 8 1 (pos 42000) (pos 1000) 120) ∷ listed (at 80 30) (plain 10 (pos 40000) (pos 1000) 0)
    ∷ listed (at 1 9999) (miscellaneous (pos 42000) (pos 1000) 30) ∷ []

pub is_good : judged (list_bytes arc) ≡ Ok (Two, 4)
unfolding list_bytes header_bytes row_bytes record_bytes what_bytes origin_bytes signed_bytes signed_of record_in origin_in records_every flag_of place_right is_right right_from in_table mark_wrong length_wrong spares_zero records_wrong judged_as judged
is_good = refl

pub third : read_of (list_bytes arc) 2 ≡ Ok (plain 10 (pos 40000) (pos 1000) 0, Some (at 80 30))
unfolding list_bytes header_bytes row_bytes record_bytes what_bytes origin_bytes signed_bytes signed_of record_in origin_in records_every flag_of place_right is_right right_from in_table mark_wrong length_wrong spares_zero records_wrong judged_as judged found_at read_of
third = refl

pub no_fifth : read_of (list_bytes arc) 4 ≡ Err BadIndex
unfolding list_bytes header_bytes row_bytes record_bytes what_bytes origin_bytes signed_bytes signed_of record_in origin_in records_every flag_of place_right is_right right_from in_table mark_wrong length_wrong spares_zero records_wrong judged_as judged found_at read_of
no_fifth = refl

-- ---- the bytes of a list of one record, M30 of block 30 of program 1, and how many records have room
pub written_bytes : list_bytes (listed (at 1 30) (miscellaneous (pos 60000) (pos 50000) 30) ∷ [])
    ≡ 84 ∷ 77 ∷ 86 ∷ 2 ∷ 0 ∷ 1 ∷ 0 ∷ 0 ∷ 6 ∷ 0 ∷ 0 ∷ 0 ∷ 96 ∷ 234 ∷ 0 ∷ 0 ∷ 80 ∷ 195 ∷ 0 ∷ 0 ∷ 30 ∷ 0 ∷ 0 ∷ 0 ∷ 1 ∷ 0 ∷ 30 ∷ 0 ∷ []
unfolding list_bytes header_bytes row_bytes record_bytes what_bytes origin_bytes signed_bytes
written_bytes = refl

pub room_for_all : room_of 64_008 ≡ 3_200
unfolding room_of
room_for_all = refl

pub room_for_one_less : room_of 64_007 ≡ 3_199
unfolding room_of
room_for_one_less = refl

-- ---- a list of version 1: its record has no block, which is not the same as program 0 and block 0
abbrev first : List ℕ
first = first_header 1 ++ first_row (rapid (pos 40000) (pos 2000) ∷ [])

pub first_good : judged first ≡ Ok (One, 1)
unfolding first_header first_row what_bytes signed_bytes signed_of record_in records_every flag_of place_right is_right right_from in_table mark_wrong length_wrong spares_zero records_wrong judged_as judged
first_good = refl

pub first_untold : read_of first 0 ≡ Ok (rapid (pos 40000) (pos 2000), None)
unfolding first_header first_row what_bytes signed_bytes signed_of record_in records_every flag_of place_right is_right right_from in_table mark_wrong length_wrong spares_zero records_wrong judged_as judged found_at read_of
first_untold = refl

-- ---- each refusal
pub none : judged (list_bytes []) ≡ Ok (Two, 0)
unfolding list_bytes header_bytes row_bytes records_every right_from mark_wrong length_wrong spares_zero records_wrong judged_as judged
none = refl

pub seven_bytes : judged (84 ∷ 77 ∷ 86 ∷ 1 ∷ 0 ∷ 0 ∷ 0 ∷ []) ≡ Err BadMark
unfolding mark_wrong judged
seven_bytes = refl

pub third_version : judged (84 ∷ 77 ∷ 86 ∷ 3 ∷ 0 ∷ 0 ∷ 0 ∷ 0 ∷ []) ≡ Err BadVersion
unfolding mark_wrong judged
third_version = refl

pub spare_in_header : judged (84 ∷ 77 ∷ 86 ∷ 1 ∷ 0 ∷ 0 ∷ 0 ∷ 1 ∷ []) ≡ Err BadLength
unfolding mark_wrong length_wrong judged_as judged
spare_in_header = refl

pub one_byte_more : judged (list_bytes [] ++ (0 ∷ [])) ≡ Err BadLength
unfolding list_bytes header_bytes row_bytes mark_wrong length_wrong judged_as judged
one_byte_more = refl

-- ---- rows of records
pub centre_alone : right_from false (plain 10 (pos 0) (pos 0) 0 ∷ []) ≡ false
unfolding right_from
centre_alone = refl

pub arc_alone : right_from false (plain 8 (pos 0) (pos 0) 0 ∷ []) ≡ false
unfolding right_from flag_of place_right is_right in_table
arc_alone = refl

pub two_centres : right_from false (plain 9 (pos 0) (pos 0) 0 ∷ plain 10 (pos 0) (pos 0) 0 ∷ plain 10 (pos 0) (pos 0) 0 ∷ []) ≡ false
unfolding right_from flag_of place_right is_right in_table
two_centres = refl

-- ---- records by themselves
pub farthest_centre : is_right (plain 10 (minus 29_999_997) (pos 29_999_997) 0) ≡ true
unfolding flag_of place_right is_right
farthest_centre = refl

pub centre_too_far : is_right (plain 10 (pos 0) (minus 29_999_998) 0) ≡ false
unfolding flag_of place_right is_right
centre_too_far = refl

pub feed_too_far : is_right (feed (pos 10_000_000) (pos 0) 1 false) ≡ false
unfolding flag_of place_right is_right in_table
feed_too_far = refl

pub flag_of_another : is_right (flagged 2 2 (pos 0) (pos 0) 1) ≡ false
unfolding flag_of place_right is_right in_table
flag_of_another = refl
