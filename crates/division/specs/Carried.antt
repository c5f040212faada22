-- WHAT IS LEFT OF A DIVISION: the quotient, what is still to be carried of the remainder, and how many pieces are to come.
use Rattle.std.specs.Prelude.{List, [], ◌∷◌, ℕ, zero, suc, ◌+◌, ◌-◌}
use Rattle.division.specs.declared.Pieces.{Pieces}

-- the next piece: the quotient, and one more while some of the remainder is left
unfoldable pub next_piece : ℕ → ℕ → ℕ
next_piece q zero = q
next_piece q (suc r) = q + 1

-- n pieces, the remainder carried from each to the next
unfoldable pub carried : ℕ → ℕ → ℕ → List ℕ
carried q r zero = []
carried q r (suc n) = next_piece q r ∷ carried q (r - 1) n

-- the pieces that are left
unfoldable pub row_of : Pieces → List ℕ
row_of p = carried p.piece p.remainder p.left
