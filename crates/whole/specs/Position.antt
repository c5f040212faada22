-- Where an axis may stand, and what a target may be.
use Rattle.std.specs.Prelude.{Bool, cond, ◌&&◌, ℤ, pos}
use Rattle.std.specs.Int.Signed.{lt_z, le_z}
use Rattle.whole.specs.Signed.{minus}
use Rattle.whole.specs.declared.position.Placed.{Placed}
use Rattle.whole.specs.declared.position.Placed.TheVariants.{At, Outside}

-- the table's range. 01: "each within -9,999,999 to 9,999,999"; start and soft limits: "all within the same range as the table"
abbrev pub table_least : ℤ
table_least = minus 9_999_999

abbrev pub table_greatest : ℤ
table_greatest = pos 9_999_999

unfoldable pub in_table : ℤ → Bool
in_table z = le_z table_least z && le_z z table_greatest

-- the range of a target. 01: "Offset = shift of group 3 + shift of group 5 + tool correction. .. Target of X or Z = word + offset": a word of at most seven
-- digits and three numbers of the table; a position in the table's range with a doubled U or a W lies within
abbrev pub target_least : ℤ
target_least = minus 39_999_996

abbrev pub target_greatest : ℤ
target_greatest = pos 39_999_996

-- the position z, where a target may be there
unfoldable pub placed : ℤ → Placed
placed z = cond (lt_z z target_least) Outside (cond (lt_z target_greatest z) Outside (At (record { um = z })))
