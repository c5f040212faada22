-- The table of places. 02, request 8: "a lent table of the places of program lines and their blocks, by program, its line first, then by number".
use Rattle.std.specs.Prelude.{Bool, true, false, cond, List, [], ◌∷◌, ℕ, suc, ◌+◌, ◌*◌, ◌/◌, ◌%◌, ◌<◌, ltb, eqb}
use Rattle.places.specs.declared.Found.{Found}
use Rattle.places.specs.declared.Found.TheVariants.{At, Nowhere}

-- a slot and a place have 16 bits each
abbrev pub sixteen_bits : ℕ
sixteen_bits = 65_536

-- what an entry is found by: the program's number, and the slot in it
abbrev pub key_of : ℕ → ℕ → ℕ
key_of program slot = program * sixteen_bits + slot

-- "its line first, then by number": the slot of a program's line, and of its block n
abbrev pub line_key : ℕ → ℕ
line_key program = key_of program 0

abbrev pub block_key : ℕ → ℕ → ℕ
block_key program n = key_of program (n + 1)

-- an entry: a key, and a place on the tape
abbrev pub entry_of : ℕ → ℕ → ℕ
entry_of key place = key * sixteen_bits + place

unfoldable pub key_in : ℕ → ℕ
key_in entry = entry / sixteen_bits

unfoldable pub place_in : ℕ → ℕ
place_in entry = entry % sixteen_bits

-- all keys of a row lie above k
abbrev pub Above : ℕ → List ℕ → Type 0
Above k [] = Unit {0}
Above k (e ∷ es) = (k < key_in e) × Above k es

-- the keys of a row ascend, so that no two are the same
abbrev pub Row : List ℕ → Type 0
Row [] = Unit {0}
Row (e ∷ es) = Above (key_in e) es × Row es

-- how many entries at the front of a row have a key below k: all such, where the keys ascend
unfoldable pub below : ℕ → List ℕ → ℕ
below k [] = 0
below k (e ∷ es) = cond (ltb (key_in e) k) (suc (below k es)) 0

-- a row with one entry more, in front of the first whose key is not below its own
unfoldable pub inserted : ℕ → List ℕ → List ℕ
inserted e [] = e ∷ []
inserted e (x ∷ xs) = cond (ltb (key_in x) (key_in e)) (x ∷ inserted e xs) (e ∷ (x ∷ xs))

-- the place of the entry with a key
unfoldable pub looked_up : ℕ → List ℕ → Found
looked_up k [] = Nowhere
looked_up k (e ∷ es) = cond (eqb (key_in e) k) (At (place_in e)) (looked_up k es)

-- whether a row has an entry with a key
abbrev pub is_at : Found → Bool
is_at (At place) = true
is_at Nowhere = false

unfoldable pub is_held : ℕ → List ℕ → Bool
is_held k row = is_at (looked_up k row)

-- the highest slot: a block's number is below it
abbrev pub highest_slot : ℕ
highest_slot = 65_535

-- the place of the line of the program n, and of the block n of the program p. A number that no slot has room for is that of no block (a jump may ask for L99999)
abbrev pub program_in : ℕ → List ℕ → Found
program_in n row = looked_up (line_key n) row

unfoldable pub block_in : ℕ → ℕ → List ℕ → Found
block_in p n row = cond (ltb n highest_slot) (looked_up (block_key p n) row) Nowhere
