-- The numbers that a case is run with, in one row: the table's, then the settings, the size of the table, of the buffer and of the table of places.
use Rattle.std.specs.Prelude.{List, [], ◌∷◌, ◌++◌, ℤ, pos}
use Rattle.panel.specs.Listmoves.{listmoves_row, no_offsets}
use Rattle.settings.specs.Wrong.{table_size}

-- a table of zeros and the settings of `listmoves`; a buffer that has room for every list, and a table of places that is long enough for every tape
unfoldable pub usual : List ℤ
usual = no_offsets ++ (listmoves_row ++ (pos table_size ∷ pos 64_008 ∷ pos 21_845 ∷ []))
