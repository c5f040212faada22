-- THE ROW OF BITES. 02, request 9: "the first bite is D3, each next one the former x (100 - D5) / 100 rounded down but not under D6, and the last is cut to reach the target
-- exactly."
use Rattle.std.specs.Prelude.{Bool, false, cond, ◌||◌, List, [], ◌∷◌, ℕ, zero, suc, ◌-◌, ◌*◌, ◌/◌, max, ltb, eqb}

-- "each next one the former x (100 - D5) / 100 rounded down but not under D6": behind a bite, with the percentage `less` and the least bite
unfoldable pub next_bite : ℕ → ℕ → ℕ → ℕ
next_bite less least bite = max (bite * (100 - less) / 100) least

-- the bites of what is left, the first of them `bite` or all that is left: "the last is cut to reach the target exactly". The last number bounds how many there are: of bites that are at
-- least 1 there are no more than units are left (law: `bound`)
unfoldable pub biting : ℕ → ℕ → ℕ → ℕ → ℕ → List ℕ
biting less least bite left zero = []
biting less least bite left (suc n) = cond (ltb bite left) (bite ∷ biting less least (next_bite less least bite) (left - bite) n) (left ∷ [])

-- whether a bite of a row is 0
unfoldable pub has_zero : List ℕ → Bool
has_zero [] = false
has_zero (d ∷ ds) = eqb d 0 || has_zero ds
