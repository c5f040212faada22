-- The values that words stand for. Any word stands for some value.
use Rattle.std.specs.Prelude.{Bool, cond, List, ℕ, ◌+◌, ◌*◌, ◌%◌, ◌^◌, eqb, ℤ, get_or}
use Rattle.octets.specs.Bytes.{signed_of}
use Rattle.whole.specs.declared.Side.{Side}
use Rattle.whole.specs.declared.Side.TheVariants.{Minus, Zero, Plus}
use Rattle.division.specs.declared.Pieces.{Pieces}

-- the word at a place, and the flag, the signed number, and the number of 8 and of 16 bits there
abbrev pub at : List ℕ → ℕ → ℕ
at w k = get_or w k 0

abbrev pub flag_of : ℕ → Bool
flag_of u = eqb u 1

abbrev pub flag_at : List ℕ → ℕ → Bool
flag_at w k = flag_of (at w k)

abbrev pub signed_at : List ℕ → ℕ → ℤ
signed_at w k = signed_of (at w k)

abbrev pub byte_at : List ℕ → ℕ → ℕ
byte_at w k = at w k % 2 ^ 8

abbrev pub short_at : List ℕ → ℕ → ℕ
short_at w k = at w k % 2 ^ 16

-- a number of 64 bits, the low word first
abbrev pub wide_at : List ℕ → ℕ → ℕ
wide_at w k = at w k + 2 ^ 32 * at w (k + 1)

abbrev pub side_of : ℕ → Side
side_of u = cond (eqb u 0) Minus (cond (eqb u 1) Zero Plus)

-- the pieces of a division
abbrev pub pieces_at : List ℕ → ℕ → Pieces
pieces_at w k = record { piece = at w k; remainder = at w (k + 1); left = at w (k + 2) }
