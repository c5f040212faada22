-- Which records a list may have, and in which row. 02, request 6: "known kinds, 10 after each 8 or 9 and nowhere else, zero spare bytes, its kind's flags, any value and positions within the
-- table's range (a centre's within three times it)". Spare bytes are no part of a record: judging/specs/Judging.antt asks for them.
use Rattle.std.specs.Prelude.{◌≡◌, Bool, true, false, cond, not, ◌&&◌, ◌||◌, List, [], ◌∷◌, ℕ, ◌≤◌, leb, eqb, ℤ, pos, ◌*ℤ◌, length}
use Rattle.std.specs.Int.Signed.{le_z}
use Rattle.whole.specs.Position.{table_least, table_greatest, in_table}
use Rattle.moves.specs.Form.{record_limit, whats, AllFitting, AllListed}
use Rattle.moves.specs.Kinds.{rapid_kind, feed_kind, speed_kind, centre_kind, is_arc, is_centre, in_turn, flag_g95, flag_g96}
use Rattle.moves.specs.declared.Record.{Record}
use Rattle.moves.specs.declared.Listed.{Listed}
use Rattle.lawful.specs.Versions.{first_record_limit}

-- ---- "known kinds"
abbrev pub is_known : ℕ → Bool
is_known kind = leb rapid_kind kind && leb kind centre_kind

-- ---- "its kind's flags": the one that a kind may have. 01: "2 feed (F; flag 1 for G95) .. 7 speed (S; flag 2 for G96). Other flags are 0."
unfoldable pub flag_of : ℕ → ℕ
flag_of kind = cond (eqb kind feed_kind || is_arc kind) flag_g95 (cond (eqb kind speed_kind) flag_g96 0)

abbrev pub flags_right : ℕ → ℕ → Bool
flags_right kind flags = eqb flags 0 || eqb flags (flag_of kind)

-- ---- "positions within the table's range (a centre's within three times it)"
abbrev pub in_three_tables : ℤ → Bool
in_three_tables z = le_z (pos 3 *ℤ table_least) z && le_z z (pos 3 *ℤ table_greatest)

unfoldable pub place_right : ℕ → ℤ → Bool
place_right kind z = cond (is_centre kind) (in_three_tables z) (in_table z)

-- ---- a record by itself
unfoldable pub is_right : Record → Bool
is_right r = (is_known r.kind && flags_right r.kind r.flags) && (place_right r.kind r.x && place_right r.kind r.z)

-- ---- "10 after each 8 or 9 and nowhere else": the records of a row, the first of which is a centre or not, as is due
unfoldable pub right_from : Bool → List Record → Bool
right_from due [] = not due
right_from due (r ∷ rs) = (in_turn due r.kind && is_right r) && right_from (is_arc r.kind) rs

abbrev pub right_row : List Record → Bool
right_row rs = right_from false rs

-- the rows that a list may have: no more than the limit, each number fits its place, and the records are right in their row
pub record Lawful (ls : List Listed) : Type 0 where
  pub few : length ls ≤ record_limit
  pub each : AllListed ls
  pub right : right_row (whats ls) ≡ true

-- and one of version 1
pub record FirstLawful (rs : List Record) : Type 0 where
  pub few : length rs ≤ first_record_limit
  pub each : AllFitting rs
  pub right : right_row rs ≡ true
