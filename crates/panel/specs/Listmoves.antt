-- What 01's program `listmoves` runs with: "with main 1, lowest subroutine 80, retract 500, start X 60000 Z 50000, limits -200000 to 200000, table zero". 02: "factory 1" empty cut; points are not asked for.
use Rattle.std.specs.Prelude.{List, [], ◌∷◌, ℤ, pos, replicate}
use Rattle.whole.specs.Signed.{minus}
use Rattle.settings.specs.declared.Settings.{Settings}
use Rattle.panel.specs.Row.{settings_of}
use Rattle.settings.specs.Wrong.{table_size}

-- in the order of the row: main, lowest subroutine, retract, start X and Z, the limits of X, the limits of Z, the empty cuts, the points
abbrev pub listmoves_row : List ℤ
listmoves_row =
    pos 1
    ∷ pos 80
    ∷ pos 500
    ∷ pos 60_000
    ∷ pos 50_000
    ∷ minus 200_000
    ∷ pos 200_000
    ∷ minus 200_000
    ∷ pos 200_000
    ∷ pos 1
    ∷ pos 0
    ∷ []

abbrev pub listmoves : Settings
listmoves = settings_of listmoves_row

abbrev pub no_offsets : List ℤ
no_offsets = replicate table_size (pos 0)
