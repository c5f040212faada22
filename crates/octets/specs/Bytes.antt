-- Numbers as rows of bytes, the lowest byte first, and a buffer with some of its bytes replaced. 01: "Little-endian."
use Rattle.std.specs.Prelude.{cond, List, [], ◌∷◌, ◌++◌, ℕ, zero, suc, ◌+◌, ◌-◌, ◌*◌, ◌/◌, ◌%◌, ◌^◌, ltb, ℤ, pos, negsuc, ◌-ℤ◌, length, take, drop}

-- n as so many bytes
abbrev pub little_endian : ℕ → ℕ → List ℕ
little_endian zero n = []
little_endian (suc k) n = n % 256 ∷ little_endian k (n / 256)

-- the number that bytes stand for
abbrev pub value_of : List ℕ → ℕ
value_of [] = 0
value_of (b ∷ bs) = b + 256 * value_of bs

-- a signed number as 32 bits: a negative one counts down from 2 ^ 32
abbrev pub word_of : ℤ → ℕ
word_of (pos n) = n
word_of (negsuc n) = 2 ^ 32 - suc n

-- a signed number as four bytes
unfoldable pub signed_bytes : ℤ → List ℕ
signed_bytes z = little_endian 4 (word_of z)

-- the signed number that 32 bits stand for: from 2 ^ 31 on they stand for themselves less 2 ^ 32
unfoldable pub signed_of : ℕ → ℤ
signed_of u = cond (ltb u (2 ^ 31)) (pos u) (pos u -ℤ pos (2 ^ 32))

-- the buffer b with the bytes w in the place of those from `at` on; all its other bytes are as they came
unfoldable pub laid : List ℕ → ℕ → List ℕ → List ℕ
laid b at w = take at b ++ (w ++ drop (at + length w) b)
