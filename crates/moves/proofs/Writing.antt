-- What the stores of a record and of a header leave in the buffer.
-- Assumes nothing.
use mathlib.Core.Path.{◌≡◌, refl, ap, ◌∙◌}
use mathlib.Core.List.{List, [], ◌∷◌, ◌++◌, append_assoc}
use Prim.Native.Nat.{ℕ, ◌+◌, ◌*◌, ◌^◌, ◌≤◌, ◌<◌}
use native.Mathlib.Omega.{arith}
use lib.ListN.{length, get_or, length-append}
use mir.Syntax.{w32}
use mir.Val.{SFits}
use Rattle.octets.specs.Bytes.{little_endian, value_of, word_of, signed_bytes, laid}
use Rattle.octets.proofs.LittleEndian.{length_little, length_signed, joined_bytes, write_back, word_fits}
use Rattle.octets.proofs.Laying.{laid_on}
use Rattle.moves.specs.declared.Record.{Record}
use Rattle.moves.specs.declared.Origin.{Origin}
use Rattle.moves.specs.Form.{record_size, version, program_at, header_bytes, what_bytes, origin_bytes, record_bytes, listed}

-- bytes and more behind them
more_on : (b : List ℕ) (v w : List ℕ) (n : ℕ) → length v ≡ n → n ≤ length b → laid (laid b 0 v) n w ≡ laid b 0 (v ++ w)
more_on b v w n e h = laid_on b 0 v w n (omega (arith, e)) h

-- the kind and the flags with X, and Z with the value, as eight bytes each
module _ (r : Record) (kind : r.kind < 256) (flags : r.flags < 256) (z : SFits w32 r.z) where
  abbrev front : List ℕ
  front = r.kind ∷ r.flags ∷ 0 ∷ 0 ∷ []

  front_eight : little_endian 8 (value_of front + 2 ^ 32 * word_of r.x) ≡ front ++ signed_bytes r.x
  unfolding signed_bytes
  front_eight =
      joined_bytes 4 4 (value_of front) (word_of r.x) (omega arith)
      ∙ ap (λ (l : List ℕ). l ++ little_endian 4 (word_of r.x)) (write_back front (kind, (flags, (omega arith, (omega arith, tt)))))

  back_eight : little_endian 8 (word_of r.z + 2 ^ 32 * r.value) ≡ signed_bytes r.z ++ little_endian 4 r.value
  unfolding signed_bytes
  back_eight = joined_bytes 4 4 (word_of r.z) r.value (word_fits r.z z)

  what_laid : (b : List ℕ) → 16 ≤ length b
      → laid (laid b 0 (little_endian 8 (value_of front + 2 ^ 32 * word_of r.x))) 8 (little_endian 8 (word_of r.z + 2 ^ 32 * r.value))
      ≡ laid b 0 (what_bytes r)
  unfolding what_bytes
  what_laid b h =
      let x : List ℕ = signed_bytes r.x in
      let back : List ℕ = signed_bytes r.z ++ little_endian 4 r.value in
      let lx : length (front ++ x) ≡ 8 = omega (arith, length-append front x, length_signed r.x) in
      (λ i. laid (laid b 0 (front_eight i)) 8 (back_eight i))
      ∙ more_on b (front ++ x) back 8 lx (omega arith)
      ∙ ap (laid b 0) (append_assoc front x back)

pub length_what : (r : Record) → length (what_bytes r) ≡ program_at
unfolding what_bytes
length_what r =
    let x : List ℕ = signed_bytes r.x in
    let z : List ℕ = signed_bytes r.z in
    let v : List ℕ = little_endian 4 r.value in
    omega (arith, length-append x (z ++ v), length-append z v, length_signed r.x, length_signed r.z, length_little 4 r.value)

-- and four more: where it came from
pub record_laid : (b : List ℕ) (r : Record) (o : Origin) → r.kind < 256 → r.flags < 256 → SFits w32 r.z → record_size ≤ length b
    → laid (laid (laid b 0 (little_endian 8 (value_of (r.kind ∷ r.flags ∷ 0 ∷ 0 ∷ []) + 2 ^ 32 * word_of r.x))) 8 (little_endian 8 (word_of r.z + 2 ^ 32 * r.value))) 16
    (get_or (little_endian 2 o.program) 0 0 ∷ get_or (little_endian 2 o.program) 1 0 ∷ get_or (little_endian 2 o.block) 0 0 ∷ get_or (little_endian 2 o.block) 1 0 ∷ [])
    ≡ laid b 0 (record_bytes (listed o r))
unfolding record_bytes origin_bytes
record_laid b r o kind flags z h = ap (λ (l : List ℕ). laid l 16 (origin_bytes o)) (what_laid r kind flags z b (omega arith)) ∙ more_on b (what_bytes r) (origin_bytes o) 16 (length_what r) (omega arith)

-- the bytes of a header, in two fours
pub header_laid : (b : List ℕ) (n : ℕ) → 8 ≤ length b
    → laid (laid b 0 (84 ∷ 77 ∷ 86 ∷ get_or (little_endian 2 version) 0 0 ∷ [])) 4 (get_or (little_endian 2 version) 1 0 ∷ get_or (little_endian 2 n) 0 0 ∷ get_or (little_endian 2 n) 1 0 ∷ 0 ∷ [])
    ≡ laid b 0 (header_bytes n)
unfolding header_bytes
header_laid b n h = more_on b (84 ∷ 77 ∷ 86 ∷ 2 ∷ []) (0 ∷ get_or (little_endian 2 n) 0 0 ∷ get_or (little_endian 2 n) 1 0 ∷ 0 ∷ []) 4 refl (omega arith)
