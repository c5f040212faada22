-- Bytes are written back from what was read of them: a signed number, a record, a row of records. What is read fits its place.
-- Assumes nothing.
use mathlib.Core.Path.{◌≡◌, refl, sym, ap, ◌∙◌}
use mathlib.Core.Bool.{Bool, true, false, cond}
use mathlib.Core.List.{List, [], ◌∷◌, ◌++◌}
use Prim.Native.Nat.{ℕ, zero, suc, ◌+◌, ◌*◌, ◌<◌, ◌≤◌, ◌^◌}
use native.Mathlib.Omega.{arith}
use lib.Dec.{ltb, eqb}
use lib.IntN.{ℤ, pos, negsuc, ◌-ℤ◌}
use lib.ListN.{length, get_or, take, drop, length-drop, take-append-drop}
use lib.Seq.{length-take-le, drop-drop, drop-cons, get_or-drop}
use borrow.Author.Tests.{eqb-true, ltb-true, ltb-false}
use mir.Syntax.{w32}
use mir.Val.{SFits}
use Rattle.octets.specs.Bytes.{little_endian, value_of, word_of, signed_bytes, signed_of}
use Rattle.whole.proofs.Integers.{whole, sub_in, fits}
use Rattle.octets.proofs.LittleEndian.{AllBytes, write_back}
use Rattle.moves.specs.Form.{record_size, program_at, block_at, what_bytes, origin_bytes, record_bytes, row_bytes, whats, Fitting, FittingOrigin, AllFitting, AllListed}
use Rattle.moves.specs.Reading.{number_at, record_in, origin_in, listed_in, row_in}
use Rattle.moves.specs.declared.Record.{Record}
use Rattle.lawful.specs.Versions.{first_record_size}
use Rattle.judging.specs.Judging.{records_every, spare_zero, spares_zero}
use Rattle.readback.specs.Laws.{Bytes, first_row}
use Rattle.judging.proofs.Judges.{both_true}

-- ---- the sign
below : (z : ℤ) (u : ℕ) → z ≡ pos u -ℤ pos (2 ^ 32) → u < 2 ^ 32 → word_of z ≡ u
below (pos k) u e h = absurd (omega (whole, e, sub_in (pos u) (pos (2 ^ 32))))
below (negsuc k) u e h = omega (whole, e, sub_in (pos u) (pos (2 ^ 32)))

word_by_lem : (t : Bool) (u : ℕ) → u < 2 ^ 32 → ltb u (2 ^ 31) ≡ t → word_of (cond t (pos u) (pos u -ℤ pos (2 ^ 32))) ≡ u
word_by_lem true u h e = refl
word_by_lem false u h e = below (pos u -ℤ pos (2 ^ 32)) u refl h

word_back : (u : ℕ) → u < 2 ^ 32 → word_of (signed_of u) ≡ u
unfolding signed_of
word_back u h = word_by_lem (ltb u (2 ^ 31)) u h refl

fits_by : (t : Bool) (u : ℕ) → u < 2 ^ 32 → ltb u (2 ^ 31) ≡ t → SFits w32 (cond t (pos u) (pos u -ℤ pos (2 ^ 32)))
fits_by true u h e = let k = ltb-true u (2 ^ 31) e in fits (omega whole)
fits_by false u h e =
    let k = ltb-false u (2 ^ 31) e in
    let d = sub_in (pos u) (pos (2 ^ 32)) in
    fits (omega whole)

signed_fits : (u : ℕ) → u < 2 ^ 32 → SFits w32 (signed_of u)
unfolding signed_of
signed_fits u h = fits_by (ltb u (2 ^ 31)) u h refl

-- ---- rows of bytes
pub all_bytes : (b : List ℕ) → Bytes b → AllBytes b
all_bytes [] h = tt
all_bytes (x ∷ b) h = (h 0, all_bytes b (λ i. h (suc i)))

pub bytes_drop : (n : ℕ) (b : List ℕ) → Bytes b → Bytes (drop n b)
bytes_drop n b h i = omega (arith, get_or-drop n b i 0, h (n + i))

all_take : (n : ℕ) (b : List ℕ) → AllBytes b → AllBytes (take n b)
all_take zero b h = tt
all_take (suc n) [] h = tt
all_take (suc n) (x ∷ b) h = (h.0, all_take n b h.1)

value_small : (b : List ℕ) → AllBytes b → length b ≡ 4 → value_of b < 2 ^ 32
value_small [] h e = absurd (omega arith)
value_small (p ∷ []) h e = absurd (omega arith)
value_small (p ∷ (q ∷ [])) h e = absurd (omega arith)
value_small (p ∷ (q ∷ (r ∷ []))) h e = absurd (omega arith)
value_small (p ∷ (q ∷ (r ∷ (s ∷ [])))) h e = omega (arith, h.0, h.1.0, h.1.1.0, h.1.1.1.0)
value_small (p ∷ (q ∷ (r ∷ (s ∷ (t ∷ b))))) h e = absurd (omega arith)

take_none : (k : ℕ) → ◌≡◌ {A = List ℕ} (take k []) []
take_none zero = refl
take_none (suc k) = refl

take_on : (m n : ℕ) (b : List ℕ) → take (m + n) b ≡ take m b ++ take n (drop m b)
take_on zero n b = let e : zero + n ≡ n = omega arith in ap (λ (k : ℕ). take k b) e
take_on (suc m) n [] = take_none (suc m + n) ∙ sym (take_none n)
take_on (suc m) n (x ∷ b) = let e : suc m + n ≡ suc (m + n) = omega arith in ap (λ (k : ℕ). take k (x ∷ b)) e ∙ ap (λ (l : List ℕ). x ∷ l) (take_on m n b)

-- ---- the four bytes of a field, at a place of some bytes that reach behind it
module _ (b : List ℕ) (h : Bytes b) (at : ℕ) (reach : at + 4 ≤ length b) where
  abbrev four : List ℕ
  four = take 4 (drop at b)

  four_long : length four ≡ 4
  four_long = length-take-le 4 (drop at b) (omega (arith, length-drop at b))

  four_bytes : AllBytes four
  four_bytes = all_take 4 (drop at b) (all_bytes (drop at b) (bytes_drop at b h))

  four_small : number_at b at 4 < 2 ^ 32
  four_small = value_small four four_bytes four_long

  four_back : little_endian 4 (number_at b at 4) ≡ four
  four_back = ap (λ (n : ℕ). little_endian n (value_of four)) (sym four_long) ∙ write_back four four_bytes

  signed_back : signed_bytes (signed_of (number_at b at 4)) ≡ four
  unfolding signed_bytes
  signed_back = ap (little_endian 4) (word_back (number_at b at 4) four_small) ∙ four_back

-- ---- what is done by a record
module _ (b : List ℕ) (h : Bytes b) (long : program_at ≤ length b) where
  pub record_fits : Fitting (record_in b)
  unfolding record_in
  record_fits = record {
    kind = omega (arith, h 0);
    flags = omega (arith, h 1);
    x = signed_fits (number_at b 4 4) (four_small b h 4 (omega arith));
    z = signed_fits (number_at b 8 4) (four_small b h 8 (omega arith));
    value = four_small b h 12 (omega arith);
  }

  pub what_back : spare_zero b ≡ true → what_bytes (record_in b) ≡ take program_at b
  unfolding what_bytes record_in
  what_back e =
      let z = both_true (eqb (get_or b 2 0) 0) (eqb (get_or b 3 0) 0) e in
      let third : get_or b 2 0 ≡ 0 = eqb-true (get_or b 2 0) 0 z.0 in
      let fourth : get_or b 3 0 ≡ 0 = eqb-true (get_or b 3 0) 0 z.1 in
      let rest : List ℕ = take 4 (drop 4 b) ++ (take 4 (drop 8 b) ++ take 4 (drop 12 b)) in
      let fields : signed_bytes (signed_of (number_at b 4 4)) ++ (signed_bytes (signed_of (number_at b 8 4)) ++ little_endian 4 (number_at b 12 4)) ≡ rest =
      (λ i. signed_back b h 4 (omega arith) i ++ (signed_back b h 8 (omega arith) i ++ four_back b h 12 (omega arith) i)) in
      let whole_rest : take 12 (drop 4 b) ≡ rest =
      take_on 4 8 (drop 4 b)
      ∙ ap (λ (l : List ℕ). take 4 (drop 4 b) ++ take 8 l) (drop-drop 4 4 b)
      ∙ ap (λ (l : List ℕ). take 4 (drop 4 b) ++ l) (take_on 4 4 (drop 8 b) ∙ ap (λ (l : List ℕ). take 4 (drop 8 b) ++ take 4 l) (drop-drop 4 8 b)) in
      let front : take 16 b ≡ get_or b 0 0 ∷ get_or b 1 0 ∷ get_or b 2 0 ∷ get_or b 3 0 ∷ take 12 (drop 4 b) =
      ap (take 16) (drop-cons b 0 0 (omega arith) ∙ ap (λ (l : List ℕ). get_or b 0 0 ∷ l) (drop-cons b 1 0 (omega arith) ∙ ap (λ (l : List ℕ). get_or b 1 0 ∷ l) (drop-cons b 2 0 (omega arith)
      ∙ ap (λ (l : List ℕ). get_or b 2 0 ∷ l) (drop-cons b 3 0 (omega arith))))) in
      sym
      (front
      ∙ (λ i. get_or b 0 0 ∷ get_or b 1 0 ∷ third i ∷ fourth i ∷ (whole_rest ∙ sym fields) i))

-- ---- where it came from
module _ (b : List ℕ) (h : Bytes b) (at : ℕ) (reach : at + 2 ≤ length b) where
  abbrev pair : List ℕ
  pair = take 2 (drop at b)

  pair_long : length pair ≡ 2
  pair_long = length-take-le 2 (drop at b) (omega (arith, length-drop at b))

  pair_bytes : AllBytes pair
  pair_bytes = all_take 2 (drop at b) (all_bytes (drop at b) (bytes_drop at b h))

  two_back : little_endian 2 (number_at b at 2) ≡ pair
  two_back = ap (λ (n : ℕ). little_endian n (value_of pair)) (sym pair_long) ∙ write_back pair pair_bytes

  two_small : number_at b at 2 < 2 ^ 16
  two_small = small pair pair_bytes pair_long
    where
      small : (l : List ℕ) → AllBytes l → length l ≡ 2 → value_of l < 2 ^ 16
      small [] h e = absurd (omega arith)
      small (p ∷ []) h e = absurd (omega arith)
      small (p ∷ (q ∷ [])) h e = omega (arith, h.0, h.1.0)
      small (p ∷ (q ∷ (r ∷ l))) h e = absurd (omega arith)

module _ (b : List ℕ) (h : Bytes b) (long : record_size ≤ length b) where
  origin_fits : FittingOrigin (origin_in b)
  unfolding origin_in
  origin_fits = record { program = two_small b h program_at (omega arith); block = two_small b h block_at (omega arith) }

  record_back : spare_zero b ≡ true → record_bytes (listed_in b) ≡ take record_size b
  unfolding record_bytes origin_bytes origin_in
  record_back e =
      let tail : take 4 (drop 16 b) ≡ take 2 (drop 16 b) ++ take 2 (drop 18 b) = take_on 2 2 (drop 16 b) ∙ ap (λ (l : List ℕ). take 2 (drop 16 b) ++ take 2 l) (drop-drop 2 16 b) in
      (λ i. what_back b h (omega arith) e i ++ (two_back b h 16 (omega arith) i ++ two_back b h 18 (omega arith) i))
      ∙ sym (take_on 16 4 b ∙ ap (λ (l : List ℕ). take 16 b ++ l) tail)

-- ---- a row of records, with the blocks that they came from
pub row_length : (n : ℕ) (b : List ℕ) → length (row_in n b) ≡ n
unfolding row_in
row_length zero b = refl
row_length (suc n) b = ap suc (row_length n (drop record_size b))

pub row_fits : (n : ℕ) (b : List ℕ) → Bytes b → length b ≡ record_size * n → AllListed (row_in n b)
unfolding row_in
row_fits zero b h e = tt
row_fits (suc n) b h e =
    ((record_fits b h (omega arith), origin_fits b h (omega arith)), row_fits n (drop record_size b) (bytes_drop record_size b h) (omega (arith, length-drop record_size b)))

pub row_back : (n : ℕ) (b : List ℕ) → Bytes b → length b ≡ record_size * n → spares_zero record_size n b ≡ true → row_bytes (row_in n b) ≡ b
unfolding row_bytes row_in spares_zero
row_back zero [] h e s = refl
row_back zero (x ∷ b) h e s = absurd (omega arith)
row_back (suc n) b h e s =
    let t = both_true (spare_zero b) (spares_zero record_size n (drop record_size b)) s in
    (λ i. record_back b h (omega arith) t.0 i ++ row_back n (drop record_size b) (bytes_drop record_size b h) (omega (arith, length-drop record_size b)) t.1 i)
    ∙ take-append-drop record_size b

-- what is done by them
pub every_what : (n : ℕ) (b : List ℕ) → records_every record_size n b ≡ whats (row_in n b)
unfolding records_every row_in whats
every_what zero b = refl
every_what (suc n) b = ap (λ (rs : List Record). record_in b ∷ rs) (every_what n (drop record_size b))

-- ---- and of version 1
pub first_length : (n : ℕ) (b : List ℕ) → length (records_every first_record_size n b) ≡ n
unfolding records_every
first_length zero b = refl
first_length (suc n) b = ap suc (first_length n (drop first_record_size b))

pub first_fits : (n : ℕ) (b : List ℕ) → Bytes b → length b ≡ first_record_size * n → AllFitting (records_every first_record_size n b)
unfolding records_every
first_fits zero b h e = tt
first_fits (suc n) b h e = (record_fits b h (omega arith), first_fits n (drop first_record_size b) (bytes_drop first_record_size b h) (omega (arith, length-drop first_record_size b)))

pub first_back : (n : ℕ) (b : List ℕ) → Bytes b → length b ≡ first_record_size * n → spares_zero first_record_size n b ≡ true → first_row (records_every first_record_size n b) ≡ b
unfolding first_row records_every spares_zero
first_back zero [] h e s = refl
first_back zero (x ∷ b) h e s = absurd (omega arith)
first_back (suc n) b h e s =
    let t = both_true (spare_zero b) (spares_zero first_record_size n (drop first_record_size b)) s in
    (λ i. what_back b h (omega arith) t.0 i ++ first_back n (drop first_record_size b) (bytes_drop first_record_size b h) (omega (arith, length-drop first_record_size b)) t.1 i)
    ∙ take-append-drop first_record_size b
