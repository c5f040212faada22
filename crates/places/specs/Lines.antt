-- What the table holds after some lines, and the walks along them. A line here is what a tape's line is to the table: a program's line or a block with its number, or one to be passed.
use Rattle.std.specs.Prelude.{◌≡◌, cond, List, [], ◌∷◌, ℕ, ◌<◌, eqb}
use Rattle.places.specs.declared.Found.{Found}
use Rattle.places.specs.declared.Found.TheVariants.{At, Nowhere}
use Rattle.places.specs.Places.{sixteen_bits, line_key, block_key, entry_of, inserted, looked_up, highest_slot}

pub data Kind : Type 0 where
  program : ℕ → Kind
  block : ℕ → Kind
  passed : Kind

pub record Line : Type 0 where
  pub kind : Kind
  pub place : ℕ

-- the number of no program: it stands for the present program in front of the first
abbrev pub no_program : ℕ
no_program = 65_535

-- ---- the table
-- the present program behind a line, and the row with it
abbrev pub program_after : ℕ → Kind → ℕ
program_after p (program n) = n
program_after p (block n) = p
program_after p passed = p

unfoldable pub row_after : ℕ → List ℕ → Kind → ℕ → List ℕ
row_after p row (program n) place = inserted (entry_of (line_key n) place) row
row_after p row (block n) place = inserted (entry_of (block_key p n) place) row
row_after p row passed place = row

-- the row behind some lines
unfoldable pub tabled : ℕ → List ℕ → List Line → List ℕ
tabled p row [] = row
tabled p row (l ∷ ls) = tabled (program_after p l.kind) (row_after p row l.kind l.place) ls

-- ---- lines that are accepted: numbers fit, and no number is repeated
abbrev pub Fresh : ℕ → List ℕ → Kind → Type 0
Fresh p row (program n) = (n < highest_slot) × (looked_up (line_key n) row ≡ Nowhere)
Fresh p row (block n) = (n < highest_slot) × (looked_up (block_key p n) row ≡ Nowhere)
Fresh p row passed = Unit {0}

abbrev pub Accepted : ℕ → List ℕ → List Line → Type 0
Accepted p row [] = Unit {0}
Accepted p row (l ∷ ls) = Fresh p row l.kind × (l.place < sixteen_bits) × Accepted (program_after p l.kind) (row_after p row l.kind l.place) ls

-- ---- the walks
-- the first line of the program n
abbrev pub program_here : ℕ → Kind → ℕ → Found → Found
program_here n (program m) place rest = cond (eqb m n) (At place) rest
program_here n (block m) place rest = rest
program_here n passed place rest = rest

unfoldable pub walked_program : ℕ → List Line → Found
walked_program n [] = Nowhere
walked_program n (l ∷ ls) = program_here n l.kind l.place (walked_program n ls)

-- the first block n, up to the next program's line
abbrev pub block_here : ℕ → Kind → ℕ → Found → Found
block_here n (program m) place rest = Nowhere
block_here n (block m) place rest = cond (eqb m n) (At place) rest
block_here n passed place rest = rest

unfoldable pub walked_block : ℕ → List Line → Found
walked_block n [] = Nowhere
walked_block n (l ∷ ls) = block_here n l.kind l.place (walked_block n ls)

-- the lines behind the first line of the program n
abbrev pub behind_here : ℕ → Kind → List Line → List Line → List Line
behind_here n (program m) ls rest = cond (eqb m n) ls rest
behind_here n (block m) ls rest = rest
behind_here n passed ls rest = rest

unfoldable pub behind : ℕ → List Line → List Line
behind n [] = []
behind n (l ∷ ls) = behind_here n l.kind ls (behind n ls)
