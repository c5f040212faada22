-- 01, "Dividing a length": "Length E above 0, greatest piece d above 0: n = E/d rounded up, q = E div n, r = E mod n. The first r pieces are q+1, the rest q."
use Rattle.std.specs.Prelude.{◌≡◌, List, [], ◌∷◌, ◌++◌, ℕ, ◌+◌, ◌-◌, ◌/◌, ◌%◌, ◌≤◌, max, length, replicate}

-- "n = E/d rounded up"
unfoldable pub count : ℕ → ℕ → ℕ
count e d = (e + (d - 1)) / d

-- "q = E div n, r = E mod n. The first r pieces are q+1, the rest q."
unfoldable pub pieces : ℕ → ℕ → List ℕ
pieces e n = replicate (e % n) (e / n + 1) ++ replicate (n - e % n) (e / n)

-- the length e divided with the greatest piece d
unfoldable pub divided : ℕ → ℕ → List ℕ
divided e d = pieces e (count e d)

-- all the pieces of a row together
abbrev pub sum : List ℕ → ℕ
sum [] = 0
sum (x ∷ xs) = x + sum xs

-- the greatest piece of a row, 0 where it has none
abbrev pub greatest : List ℕ → ℕ
greatest [] = 0
greatest (x ∷ xs) = max x (greatest xs)

-- A ROW DIVIDES A LENGTH EVENLY, as demand 3 says it. The row's pieces, against every other row of whole numbers that adds up to the length:
pub record Evenly (length-to-divide greatest-piece : ℕ) (row : List ℕ) : Type 0 where
  -- the pieces add up exactly to the length
  pub adds_up : sum row ≡ length-to-divide
  -- none is above the greatest piece
  pub within : greatest row ≤ greatest-piece
  -- no other row within the greatest piece has fewer pieces
  pub fewest : (other : List ℕ) → sum other ≡ length-to-divide → greatest other ≤ greatest-piece → length row ≤ length other
  -- no other row of as many pieces has a smaller greatest one
  pub flattest : (other : List ℕ) → sum other ≡ length-to-divide → length other ≡ length row → greatest row ≤ greatest other
