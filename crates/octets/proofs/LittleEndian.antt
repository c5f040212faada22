-- Bytes, there and back: one law over the number of bytes, and the sign.
-- Assumes nothing.
use mathlib.Core.Path.{◌≡◌, refl, ap, ◌∙◌}
use mathlib.Core.List.{List, [], ◌∷◌, ◌++◌}
use Prim.Native.Nat.{ℕ, zero, suc, ◌+◌, ◌-◌, ◌*◌, ◌/◌, ◌%◌, ◌^◌, ◌<◌}
use native.Mathlib.Nat.{div-lt_iff_lt-mul, pow-suc, zero-add, mul_comm, mul_assoc}
use native.Mathlib.Omega.{arith}
use lib.IntN.{ℤ, pos, negsuc}
use lib.ListN.{length}
use borrow.Author.Tests.{lt-ltb, le-ltb}
use mir.Syntax.{w32}
use mir.Val.{SFits}
use Rattle.octets.specs.Bytes.{little_endian, value_of, word_of, signed_bytes, signed_of}
use Rattle.whole.proofs.Integers.{whole, range, sub_in}

pub length_little : (k n : ℕ) → length (little_endian k n) ≡ k
length_little zero n = refl
length_little (suc k) n = ap suc (length_little k (n / 256))

-- a number that the bytes can hold is read back from them
pub read_back : (k n : ℕ) → n < 256 ^ k → value_of (little_endian k n) ≡ n
read_back zero n h = omega (arith, h)
read_back (suc k) n h = let e = read_back k (n / 256) ((div-lt_iff_lt-mul {k = 256} {x = n} {y = 256 ^ k} (omega arith)).1 (omega (arith, h, pow-suc 256 k))) in omega arith

-- two numbers that are joined are written one behind the other
pub joined_bytes : (j k a b : ℕ) → a < 256 ^ j → little_endian (j + k) (a + 256 ^ j * b) ≡ little_endian j a ++ little_endian k b
joined_bytes zero k a b h = (λ i. little_endian (zero-add k i) (none i))
  where
    none : a + 256 ^ 0 * b ≡ b
    none = omega (arith, h)
joined_bytes (suc j) k a b h =
    let n : ℕ = a + 256 ^ suc j * b in
    let c : ℕ = 256 ^ j * b in
    let whole : 256 ^ suc j * b ≡ 256 * c = ap (λ (m : ℕ). m * b) (pow-suc 256 j) ∙ assoc j b in
    let low : n % 256 ≡ a % 256 = omega (arith, whole) in
    let high : n / 256 ≡ a / 256 + c = omega (arith, whole) in
    let small : a / 256 < 256 ^ j = (div-lt_iff_lt-mul {k = 256} {x = a} {y = 256 ^ j} (omega arith)).1 (omega (arith, h, pow-suc 256 j)) in
    ap (λ (m : ℕ). little_endian m n) (suc_add j k) ∙ (λ i. low i ∷ little_endian (j + k) (high i)) ∙ ap (λ (l : List ℕ). a % 256 ∷ l) (joined_bytes j k (a / 256) b small)
  where
    suc_add : (j k : ℕ) → suc j + k ≡ suc (j + k)
    suc_add j k = omega arith

    assoc : (j b : ℕ) → (256 ^ j * 256) * b ≡ 256 * (256 ^ j * b)
    assoc j b = ap (λ (m : ℕ). m * b) (mul_comm (256 ^ j) 256) ∙ mul_assoc 256 (256 ^ j) b

-- bytes are written back from the number that they stand for
abbrev pub AllBytes : List ℕ → Type 0
AllBytes [] = Unit {0}
AllBytes (b ∷ bs) = (b < 256) × AllBytes bs

pub write_back : (bs : List ℕ) → AllBytes bs → little_endian (length bs) (value_of bs) ≡ bs
write_back [] h = refl
write_back (b ∷ bs) (h, hs) =
    let low : (b + 256 * value_of bs) % 256 ≡ b = omega arith in
    let high : (b + 256 * value_of bs) / 256 ≡ value_of bs = omega arith in
    (λ i. low i ∷ little_endian (length bs) (high i)) ∙ ap (λ (l : List ℕ). b ∷ l) (write_back bs hs)

-- ---- the sign
-- a number that 32 bits can hold is read back from its bits
signed_word : (z : ℤ) → SFits w32 z → signed_of (word_of z) ≡ z
unfolding signed_of
signed_word (pos n) f = rw (lt-ltb n (2 ^ 31) f.sfits)
signed_word (negsuc n) f =
    rw (le-ltb (2 ^ 32 - suc n) (2 ^ 31) (omega (arith, f.sfits))) (omega (whole, range f, sub_in (pos (2 ^ 32 - suc n)) (pos (2 ^ 32))))

pub word_fits : (z : ℤ) → SFits w32 z → word_of z < 2 ^ 32
word_fits (pos n) f = omega (arith, f.sfits)
word_fits (negsuc n) f = omega arith

pub signed_read_back : (z : ℤ) → SFits w32 z → signed_of (value_of (signed_bytes z)) ≡ z
unfolding signed_bytes
signed_read_back z f = ap signed_of (read_back 4 (word_of z) (word_fits z f)) ∙ signed_word z f

pub length_signed : (z : ℤ) → length (signed_bytes z) ≡ 4
unfolding signed_bytes
length_signed z = length_little 4 (word_of z)
