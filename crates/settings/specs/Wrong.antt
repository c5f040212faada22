-- Alarm 1: "table not 208 numbers, a number out of range, lowest limit above highest, start outside limits, lowest subroutine above 255, main above 6999 or from lowest subroutine to 255". 01:
-- "Offset table: 208 signed numbers .. each within -9,999,999 to 9,999,999. Settings: .. retract (001: S02, factory 500) 0 to 32,767; start position; soft limits .., all within the same range". 02: "a new setting .. (S01, factory 1, 0 to 32,767)".
use Rattle.std.specs.Prelude.{Bool, false, not, ◌&&◌, ◌||◌, List, [], ◌∷◌, ℕ, leb, ltb, eqb, ℤ, length}
use Rattle.std.specs.Int.Signed.{lt_z}
use Rattle.whole.specs.Position.{in_table}
use Rattle.settings.specs.Limits.{outside_span}
use Rattle.settings.specs.declared.Span.{Span}
use Rattle.settings.specs.declared.Settings.{Settings}

-- how many numbers the offset table has: two for each of 5 shifts and 99 corrections
abbrev pub table_size : ℕ
table_size = 208

abbrev pub greatest_retract : ℕ
greatest_retract = 32_767

abbrev pub greatest_empty_cuts : ℕ
greatest_empty_cuts = 32_767

-- the highest number of a program, and of one that can be called
abbrev pub highest_program : ℕ
highest_program = 6_999

abbrev pub highest_subroutine : ℕ
highest_subroutine = 255

-- some number of a row is out of range
unfoldable pub some_out : List ℤ → Bool
some_out [] = false
some_out (z ∷ zs) = not (in_table z) || some_out zs

-- the limits of an axis and where it starts: out of range, the lowest above the highest, or the start outside
unfoldable pub span_wrong : Span → ℤ → Bool
span_wrong s start = (not (in_table s.lowest) || not (in_table s.highest)) || ((not (in_table start) || lt_z s.highest s.lowest) || outside_span s start)

-- "lowest subroutine above 255, main above 6999 or from lowest subroutine to 255"
unfoldable pub numbers_wrong : ℕ → ℕ → Bool
numbers_wrong main lowest = ltb highest_subroutine lowest || (ltb highest_program main || (leb lowest main && leb main highest_subroutine))

unfoldable pub table_wrong : List ℤ → Bool
table_wrong table = not (eqb (length table) table_size) || some_out table

unfoldable pub settings_wrong : List ℤ → Settings → Bool
settings_wrong table set =
    ((table_wrong table || ltb greatest_retract set.retract) || ltb greatest_empty_cuts set.empty_cuts)
    || ((span_wrong set.limits.x set.x || span_wrong set.limits.z set.z) || numbers_wrong set.main set.lowest_subroutine)
