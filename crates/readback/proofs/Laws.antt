-- A READER AND A WRITER AGREE: what was written is read, what is accepted is what the writer writes of the records that are read off it; and so for the lists of version 1, which no one writes any more.
-- Assumes nothing.
use mathlib.Core.Path.{◌≡◌, refl, sym, ap, ◌∙◌, subst}
use mathlib.Core.Bool.{Bool, true, false, not, ◌&&◌, ◌||◌}
use mathlib.Core.List.{List, [], ◌∷◌, ◌++◌, append_assoc, append-nil}
use Prim.Native.Nat.{ℕ, zero, suc, ◌+◌, ◌-◌, ◌*◌, ◌/◌, ◌%◌, ◌<◌, ◌≤◌}
use native.Mathlib.Omega.{arith}
use lib.Dec.{ltb, eqb}
use lib.ListN.{length, get_or, drop, length-append, length-drop}
use lib.Seq.{drop_at, drop-drop, drop-cons}
use borrow.Author.Tests.{eqb-true, not-false, eq-eqb, le-ltb}
use Rattle.octets.specs.Bytes.{little_endian}
use Rattle.moves.specs.Form.{header_size, record_size, mark, header_zero_at, header_bytes, what_bytes, origin_bytes, record_bytes, row_bytes, list_bytes, whats, AllFitting}
use Rattle.moves.specs.Reading.{record_in, row_in, count_in, list_in}
use Rattle.moves.specs.declared.Record.{Record}
use Rattle.moves.specs.declared.Listed.{Listed}
use Rattle.moves.proofs.Writing.{length_what}
use Rattle.moves.proofs.OneReading.{length_record, length_row, what_read, row_read}
use Rattle.judging.specs.declared.Refusal.TheVariants.{BadIndex}
use Rattle.lawful.specs.Right.{right_row, Lawful, FirstLawful}
use Rattle.lawful.specs.Versions.{first_record_size, number_of, size_in, limit_in, start_in}
use Rattle.judging.specs.Judging.{mark_differs, mark_wrong, length_wrong, records_every, spare_zero, spares_zero, records_wrong, judged_as, judged}
use Rattle.readback.specs.Lists.{found_at, source_in, read_of}
use Rattle.readback.specs.Laws.{picked, ReadsBack, WrittenIsRead, Bytes, ReadIsWritten, first_header, first_row, first_picked, FirstReadsBack, FirstIsRead, first_in, FirstIsForm, OnceJudged}
use Rattle.lawful.specs.declared.Version.{Version}
use Rattle.lawful.specs.declared.Version.TheVariants.{One, Two}
use Rattle.std.specs.Prelude.{Ok, Err}
use Rattle.judging.proofs.Judges.{none_true, both_true}
use Rattle.readback.proofs.Accepted.{passed, good_length, good_count, every_k, once_judged}
use Rattle.fields.proofs.Taking.{two_value}
use Rattle.readback.proofs.Written.{row_length, row_fits, row_back, every_what, first_length, first_fits, first_back, bytes_drop}

-- ---- the header of a version
abbrev header_of : Version → ℕ → List ℕ
header_of v n = mark ++ (little_endian 2 (number_of v) ++ (little_endian 2 n ++ (0 ∷ [])))

few_enough : (v : Version) (n : ℕ) → n ≤ limit_in v → n % 256 + 256 * (n / 256 % 256 + 256 * 0) ≡ n
few_enough One n h = omega (arith, h)
few_enough Two n h = omega (arith, h)

-- ---- WHAT IS IN THE FORM OF A VERSION IS ACCEPTED
module _ (v : Version) (n : ℕ) (few : n ≤ limit_in v) (row : List ℕ) (size : length row ≡ size_in v * n) (spares : spares_zero (size_in v) n row ≡ true)
    (right : right_row (records_every (size_in v) n row) ≡ true) where
  abbrev b : List ℕ
  b = header_of v n ++ row

  long : length b ≡ start_in v n
  long = omega (arith, size)

  counted : count_in b ≡ n
  counted = few_enough v n few

  mark_right : mark_wrong b ≡ false
  unfolding mark_wrong
  mark_right = ap (λ (t : Bool). t || ((mark_differs b 0 || mark_differs b 1) || mark_differs b 2)) (le-ltb (length b) header_size (omega (arith, long)))

  length_right : length_wrong v b ≡ false
  unfolding length_wrong
  length_right =
      ap (λ (t : Bool). t || (not (eqb (length b) (start_in v (count_in b))) || not (eqb (get_or b header_zero_at 0) 0))) (le-ltb (limit_in v) (count_in b) (omega (arith, counted, few)))
      ∙ ap (λ (t : Bool). not t || not (eqb (get_or b header_zero_at 0) 0)) (eq-eqb (length b) (start_in v (count_in b)) (long ∙ ap (start_in v) (sym counted)))
      ∙ ap (λ (t : Bool). not t) (eq-eqb (get_or b header_zero_at 0) 0 refl)

  records_right : records_wrong v b ≡ false
  unfolding records_wrong
  records_right =
      ap (λ (m : ℕ). not (spares_zero (size_in v) m row && right_row (records_every (size_in v) m row))) counted
      ∙ ap (λ (t : Bool). not (t && right_row (records_every (size_in v) n row))) spares
      ∙ ap not right

  as_good : judged_as v b ≡ Ok (v, n)
  unfolding judged_as
  as_good = rw (length_right, records_right) (ap (λ (m : ℕ). Ok (v, m)) counted)

accepts : (v : Version) (n : ℕ) (few : n ≤ limit_in v) (row : List ℕ) (size : length row ≡ size_in v * n) (spares : spares_zero (size_in v) n row ≡ true)
    (right : right_row (records_every (size_in v) n row) ≡ true) → judged (header_of v n ++ row) ≡ Ok (v, n)
unfolding judged
accepts One n few row size spares right = rw (mark_right One n few row size spares right) (as_good One n few row size spares right)
accepts Two n few row size spares right = rw (mark_right Two n few row size spares right) (as_good Two n few row size spares right)

-- ---- what was written is read
-- the zeros of every record are written
what_spare : (r : Record) (t : List ℕ) → spare_zero (what_bytes r ++ t) ≡ true
unfolding what_bytes
what_spare r t = refl

spares_written : (ls : List Listed) → spares_zero record_size (length ls) (row_bytes ls) ≡ true
unfolding spares_zero row_bytes record_bytes
spares_written [] = refl
spares_written (l ∷ ls) =
    let e : record_bytes l ++ row_bytes ls ≡ what_bytes l.what ++ (origin_bytes l.origin ++ row_bytes ls) = append_assoc (what_bytes l.what) (origin_bytes l.origin) (row_bytes ls) in
    (λ i. (ap spare_zero e ∙ what_spare l.what (origin_bytes l.origin ++ row_bytes ls)) i && spares_zero record_size (length ls) (drop_at (record_bytes l) (row_bytes ls) record_size (length_record l) i))
    ∙ spares_written ls

-- record k of some bytes is record k of the row that is read off them
row_picked : (n : ℕ) (l : List ℕ) (at k : ℕ) → k < n
    → Ok (record_in (drop (at + record_size * k) l), source_in Two (drop (at + record_size * k) l)) ≡ picked (row_in n (drop at l)) k
unfolding row_in
row_picked zero l at k h = absurd (omega arith)
row_picked (suc n) l at zero h =
    let e : at + record_size * zero ≡ at = omega arith in ap (λ (m : ℕ). Ok (record_in (drop m l), source_in Two (drop m l))) e
row_picked (suc n) l at (suc k) h =
    let e : at + record_size * suc k ≡ at + record_size + record_size * k = omega arith in
    ap (λ (m : ℕ). Ok (record_in (drop m l), source_in Two (drop m l))) e
    ∙ row_picked n l (at + record_size) k (omega arith)
    ∙ ap (λ (r : List ℕ). picked (row_in n r) k) (sym (drop-drop record_size at l))

none_picked : (ls : List Listed) (k : ℕ) → length ls ≤ k → Err BadIndex ≡ picked ls k
none_picked [] k h = refl
none_picked (l ∷ ls) zero h = absurd (omega arith)
none_picked (l ∷ ls) (suc k) h = none_picked ls k (omega arith)

module _ (b : List ℕ) (n : ℕ) (good : judged b ≡ Ok (Two, n)) where
  read_length : length (list_in b) ≡ n
  unfolding list_in
  read_length = row_length (count_in b) (drop header_size b) ∙ sym (passed b n Two good).count

  there : (k : ℕ) → k < n → Ok (found_at Two b k) ≡ picked (list_in b) k
  unfolding list_in found_at
  there k h = row_picked (count_in b) b header_size k (omega (arith, (passed b n Two good).count, h))

  -- READING RECORD K of a list that is accepted gives record k of the row that is read off it, with its block
  pub each_read : (k : ℕ) → read_of b k ≡ picked (list_in b) k
  each_read k = every_k b n Two good k (picked (list_in b) k) (there k) (λ h. none_picked (list_in b) k (omega (arith, read_length, h)))

module _ (ls : List Listed) (f : Lawful ls) where
  row_is : row_in (length ls) (row_bytes ls) ≡ ls
  row_is = ap (row_in (length ls)) (sym (append-nil (row_bytes ls))) ∙ row_read ls [] f.each

  right_is : right_row (records_every record_size (length ls) (row_bytes ls)) ≡ true
  right_is = ap right_row (every_what (length ls) (row_bytes ls) ∙ ap whats row_is) ∙ f.right

  list_accepted : judged (list_bytes ls) ≡ Ok (Two, length ls)
  unfolding list_bytes header_bytes
  list_accepted = accepts Two (length ls) f.few (row_bytes ls) (length_row ls) (spares_written ls) right_is

  reads : list_in (list_bytes ls) ≡ ls
  unfolding list_bytes header_bytes list_in
  reads = ap (λ (m : ℕ). row_in m (row_bytes ls)) (few_enough Two (length ls) f.few) ∙ row_is

-- READING WHAT THE WRITER WROTE GIVES ITS RECORDS WITH THEIR BLOCKS, of every lawful row
pub written_is_read : (b : List ℕ) (ls : List Listed) → WrittenIsRead b ls
written_is_read b ls w =
    let good = list_accepted ls w.lawful in
    subst (λ (l : List ℕ). ReadsBack l ls) (sym w.bytes)
    (record { accepted = good; each = λ k. each_read (list_bytes ls) (length ls) good k ∙ ap (λ (l : List Listed). picked l k) (reads ls w.lawful) })

-- ---- what is accepted is written back
module _ (b : List ℕ) (h : Bytes b) (n : ℕ) (v : Version) (good : judged b ≡ Ok (v, n)) where
  abbrev p : ℕ → ℕ
  p i = get_or b i 0

  long_b : length b ≡ start_in v n
  long_b = good_length b n v good

  abbrev rest : List ℕ
  rest = drop header_size b

  -- the eight bytes of the header, one by one
  front : b ≡ p 0 ∷ p 1 ∷ p 2 ∷ p 3 ∷ p 4 ∷ p 5 ∷ p 6 ∷ p 7 ∷ rest
  front =
      next 0 (omega (arith, long_b)) ∙ ap (λ (l : List ℕ). p 0 ∷ l) (next 1 (omega (arith, long_b)) ∙ ap (λ (l : List ℕ). p 1 ∷ l) (next 2 (omega (arith, long_b))
      ∙ ap (λ (l : List ℕ). p 2 ∷ l) (next 3 (omega (arith, long_b)) ∙ ap (λ (l : List ℕ). p 3 ∷ l) (next 4 (omega (arith, long_b)) ∙ ap (λ (l : List ℕ). p 4 ∷ l) (next 5 (omega (arith, long_b))
      ∙ ap (λ (l : List ℕ). p 5 ∷ l) (next 6 (omega (arith, long_b)) ∙ ap (λ (l : List ℕ). p 6 ∷ l) (next 7 (omega (arith, long_b)))))))))
    where
      next : (i : ℕ) → i < length b → drop i b ≡ get_or b i 0 ∷ drop (suc i) b
      next i l = drop-cons b i 0 l

  same_by : (i m : ℕ) → not (eqb (p i) m) ≡ false → p i ≡ m
  same_by i m e = eqb-true (p i) m (not-false (eqb (p i) m) e)

  -- the tests that did not refuse it
  mark_is : (p 0 ≡ 84) × (p 1 ≡ 77) × (p 2 ≡ 86)
  unfolding mark_wrong
  mark_is =
      let m = (none_true (ltb (length b) header_size) _ (passed b n v good).mark).1 in
      let u = none_true (mark_differs b 0 || mark_differs b 1) (mark_differs b 2) m in
      let w = none_true (mark_differs b 0) (mark_differs b 1) u.0 in
      (same_by 0 84 w.0, same_by 1 77 w.1, same_by 2 86 u.1)

  version_is : p 3 + 256 * p 4 ≡ number_of v
  version_is = two_value b 3 (p 3) (p 4) (omega (arith, long_b)) refl refl ∙ (passed b n v good).version

  count_is : p 5 + 256 * p 6 ≡ n
  count_is = two_value b 5 (p 5) (p 6) (omega (arith, long_b)) refl refl ∙ sym (passed b n v good).count

  zero_is : p 7 ≡ 0
  unfolding length_wrong
  zero_is = same_by 7 0 (none_true (not (eqb (length b) (start_in v (count_in b)))) _ (none_true (ltb (limit_in v) (count_in b)) _ (passed b n v good).length).1).1

  pub asked : (spares_zero (size_in v) (count_in b) rest && right_row (records_every (size_in v) (count_in b) rest)) ≡ true
  unfolding records_wrong
  asked = not-false _ (passed b n v good).records

  pub header_back : header_of v n ++ rest ≡ b
  header_back =
      let e3 : number_of v % 256 ≡ p 3 = omega (arith, version_is, h 3, h 4) in
      let high_v : number_of v / 256 ≡ p 4 = omega (arith, version_is, h 3) in
      let e4 : number_of v / 256 % 256 ≡ p 4 = omega (arith, high_v, h 4) in
      let e5 : n % 256 ≡ p 5 = omega (arith, count_is, h 5, h 6) in
      let high : n / 256 ≡ p 6 = omega (arith, count_is, h 5) in
      let e6 : n / 256 % 256 ≡ p 6 = omega (arith, high, h 6) in
      (λ i. sym mark_is.0 i ∷ sym mark_is.1 i ∷ sym mark_is.2 i ∷ e3 i ∷ e4 i ∷ e5 i ∷ e6 i ∷ sym zero_is i ∷ rest) ∙ sym front

  pub rest_length : length rest ≡ size_in v * count_in b
  rest_length = length-drop header_size b ∙ ap (λ (m : ℕ). m - header_size) (long_b ∙ ap (start_in v) (passed b n v good).count) ∙ behind (size_in v * count_in b)
    where
      behind : (m : ℕ) → header_size + m - header_size ≡ m
      behind m = omega arith

-- WRITING WHAT WAS READ GIVES THE BYTES, of all bytes that are accepted as version 2: and so nothing is accepted as version 2 but lists in the written form
module _ (b : List ℕ) (h : Bytes b) (n : ℕ) (good : judged b ≡ Ok (Two, n)) where
  parts : (spares_zero record_size (count_in b) (drop header_size b) ≡ true) × (right_row (records_every record_size (count_in b) (drop header_size b)) ≡ true)
  parts = both_true _ _ (asked b h n Two good)

  list_back : list_bytes (list_in b) ≡ b
  unfolding list_bytes header_bytes list_in
  list_back =
      (λ i. header_of Two (row_length (count_in b) (drop header_size b) i) ++ row_back (count_in b) (drop header_size b) (bytes_drop header_size b h) (rest_length b h n Two good) parts.0 i)
      ∙ ap (λ (m : ℕ). header_of Two m ++ drop header_size b) (sym (passed b n Two good).count)
      ∙ header_back b h n Two good

  list_right : right_row (whats (list_in b)) ≡ true
  unfolding list_in
  list_right = ap right_row (sym (every_what (count_in b) (drop header_size b))) ∙ parts.1

  lawful_read : Lawful (list_in b)
  unfolding list_in
  lawful_read = record {
    few = omega (arith, read_length b n good, good_count b n Two good);
    each = row_fits (count_in b) (drop header_size b) (bytes_drop header_size b h) (rest_length b h n Two good);
    right = list_right;
  }

pub read_is_written : (b : List ℕ) → ReadIsWritten b
read_is_written b h n good = (
  record { lawful = lawful_read b h n good; bytes = sym (list_back b h n good) },
  record { accepted = good ∙ ap (λ (m : ℕ). Ok (Two, m)) (sym (read_length b n good)); each = each_read b n good },
  read_length b n good,
)

-- ---- VERSION 1: a list in its form is read, and nothing else is accepted as version 1
first_row_length : (rs : List Record) → length (first_row rs) ≡ first_record_size * length rs
unfolding first_row
first_row_length [] = refl
first_row_length (r ∷ rs) = length-append (what_bytes r) (first_row rs) ∙ omega (arith, length_what r, first_row_length rs)

first_spares : (rs : List Record) → spares_zero first_record_size (length rs) (first_row rs) ≡ true
unfolding spares_zero first_row
first_spares [] = refl
first_spares (r ∷ rs) =
    (λ i. what_spare r (first_row rs) i && spares_zero first_record_size (length rs) (drop_at (what_bytes r) (first_row rs) first_record_size (length_what r) i)) ∙ first_spares rs

first_read : (rs : List Record) → AllFitting rs → records_every first_record_size (length rs) (first_row rs) ≡ rs
unfolding records_every first_row
first_read [] f = refl
first_read (r ∷ rs) f =
    (λ i. what_read r (first_row rs) f.0 i ∷ records_every first_record_size (length rs) (drop_at (what_bytes r) (first_row rs) first_record_size (length_what r) i))
    ∙ ap (λ (l : List Record). r ∷ l) (first_read rs f.1)

first_there : (n : ℕ) (l : List ℕ) (at k : ℕ) → k < n
    → Ok (record_in (drop (at + first_record_size * k) l), source_in One (drop (at + first_record_size * k) l)) ≡ first_picked (records_every first_record_size n (drop at l)) k
unfolding records_every
first_there zero l at k h = absurd (omega arith)
first_there (suc n) l at zero h =
    let e : at + first_record_size * zero ≡ at = omega arith in ap (λ (m : ℕ). Ok (record_in (drop m l), source_in One (drop m l))) e
first_there (suc n) l at (suc k) h =
    let e : at + first_record_size * suc k ≡ at + first_record_size + first_record_size * k = omega arith in
    ap (λ (m : ℕ). Ok (record_in (drop m l), source_in One (drop m l))) e
    ∙ first_there n l (at + first_record_size) k (omega arith)
    ∙ ap (λ (r : List ℕ). first_picked (records_every first_record_size n r) k) (sym (drop-drop first_record_size at l))

first_none : (rs : List Record) (k : ℕ) → length rs ≤ k → Err BadIndex ≡ first_picked rs k
first_none [] k h = refl
first_none (r ∷ rs) zero h = absurd (omega arith)
first_none (r ∷ rs) (suc k) h = first_none rs k (omega arith)

module _ (b : List ℕ) (n : ℕ) (good : judged b ≡ Ok (One, n)) where
  first_count : length (first_in b) ≡ n
  first_count = first_length (count_in b) (drop header_size b) ∙ sym (passed b n One good).count

  first_found : (k : ℕ) → k < n → Ok (found_at One b k) ≡ first_picked (first_in b) k
  unfolding found_at
  first_found k h = first_there (count_in b) b header_size k (omega (arith, (passed b n One good).count, h))

  first_each : (k : ℕ) → read_of b k ≡ first_picked (first_in b) k
  first_each k = every_k b n One good k (first_picked (first_in b) k) (first_found k) (λ h. first_none (first_in b) k (omega (arith, first_count, h)))

module _ (rs : List Record) (f : FirstLawful rs) where
  abbrev first_bytes : List ℕ
  first_bytes = first_header (length rs) ++ first_row rs

  first_accepted : judged first_bytes ≡ Ok (One, length rs)
  unfolding first_header
  first_accepted = accepts One (length rs) f.few (first_row rs) (first_row_length rs) (first_spares rs) (ap right_row (first_read rs f.each) ∙ f.right)

  first_reads : first_in first_bytes ≡ rs
  unfolding first_header
  first_reads = ap (λ (m : ℕ). records_every first_record_size m (first_row rs)) (few_enough One (length rs) f.few) ∙ first_read rs f.each

pub first_is_read : (b : List ℕ) (rs : List Record) → FirstIsRead b rs
first_is_read b rs w =
    let good = first_accepted rs w.lawful in
    subst (λ (l : List ℕ). FirstReadsBack l rs) (sym w.bytes)
    (record { accepted = good; each = λ k. first_each (first_bytes rs w.lawful) (length rs) good k ∙ ap (λ (l : List Record). first_picked l k) (first_reads rs w.lawful) })

module _ (b : List ℕ) (h : Bytes b) (n : ℕ) (good : judged b ≡ Ok (One, n)) where
  first_parts : (spares_zero first_record_size (count_in b) (drop header_size b) ≡ true) × (right_row (first_in b) ≡ true)
  first_parts = both_true _ _ (asked b h n One good)

  first_list_back : first_header (length (first_in b)) ++ first_row (first_in b) ≡ b
  unfolding first_header
  first_list_back =
      (λ i. header_of One (first_length (count_in b) (drop header_size b) i) ++ first_back (count_in b) (drop header_size b) (bytes_drop header_size b h) (rest_length b h n One good) first_parts.0 i)
      ∙ ap (λ (m : ℕ). header_of One m ++ drop header_size b) (sym (passed b n One good).count)
      ∙ header_back b h n One good

pub first_is_form : (b : List ℕ) → FirstIsForm b
first_is_form b h n good = (
  record {
    lawful = record {
      few = omega (arith, first_count b n good, good_count b n One good);
      each = first_fits (count_in b) (drop header_size b) (bytes_drop header_size b h) (rest_length b h n One good);
      right = (first_parts b h n good).1;
    };
    bytes = sym (first_list_back b h n good);
  },
  record { accepted = good ∙ ap (λ (m : ℕ). Ok (One, m)) (sym (first_count b n good)); each = first_each b n good },
  first_count b n good,
)

-- ---- one judging does
pub one_judging : (b : List ℕ) → OnceJudged b
one_judging b v n good k = once_judged b v n good k
