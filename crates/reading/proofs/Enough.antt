-- A table of 21,845 entries is long enough for every tape: each program line and each block takes three bytes at least, its end counted, and alarm 22 is not given. So all judgements stay.
-- Assumes nothing.
use mathlib.Core.Path.{◌≡◌, refl, sym, ap, ◌∙◌}
use mathlib.Core.Bool.{Bool, true, false, cond, ◌&&◌, ◌||◌}
use mathlib.Core.List.{List, [], ◌∷◌}
use Prim.Native.Nat.{ℕ, zero, suc, ◌+◌, ◌-◌, ◌*◌, ◌<◌, ◌≤◌}
use native.Mathlib.Omega.{arith}
use lib.Dec.{ltb, eqb}
use lib.ListN.{length, take, drop, get_or, length-take}
use borrow.Author.Tests.{ltb-true, ltb-false, lt-leb, eqb-true, ne_eqb}
use Rattle.letters.specs.Letters.{letter_p, letter_d, cr, equals, digit_zero}
use Rattle.numbers.specs.declared.Number.{Number}
use Rattle.numbers.specs.declared.Number.TheVariants.{Value, Bad}
use Rattle.numbers.specs.declared.NumberForm.{NumberForm}
use Rattle.numbers.specs.declared.NumberForm.TheVariants.{Path, TwoDigits, FourDigits, FiveDigits, DNumber}
use Rattle.numbers.specs.Numbers.{is_digit, path_of, digits_of, digits_in, number_of}
use Rattle.addresses.specs.declared.NextWord.{NextWord}
use Rattle.addresses.specs.declared.NextWord.TheVariants as next
use Rattle.addresses.specs.declared.Address.{Address}
use Rattle.addresses.specs.declared.Address.TheVariants.{Known, Unknown}
use Rattle.addresses.specs.declared.Index.TheVariants as index
use Rattle.addresses.specs.Words.{capital, ends_number, form_of, word_by, number_word, behind_index, indexed_word, addressed, word_at, behind_gap, next_word, NextIn}
use Rattle.addresses.proofs.Wording.{next_in}
use Rattle.tape.specs.declared.line.Line.{Line}
use Rattle.tape.specs.declared.line.Gap.{Gap}
use Rattle.tape.specs.declared.line.Gap.TheVariants as gap
use Rattle.tape.specs.Lines.{seek_from, opens_tape, is_line_feed, gap_of, line_at, LineIn, Text, text_at, lines}
use Rattle.tape.proofs.Lining.{line_in_lem, lines_more, lines_end}
use Rattle.alarms.specs.Numbers as alarms
use Rattle.places.specs.Places.{line_key, block_key, entry_of}
use Rattle.places.proofs.Rows.{inserted_length}
use Rattle.block.specs.Words.{head_of, head_of_next}
use Rattle.showing.specs.Showing.{judged}
use Rattle.showing.specs.declared.Judged.{Judged}
use Rattle.block.specs.declared.Head.{Head}
use Rattle.block.specs.declared.Head.TheVariants.{Blank, ProgramLine, BlockLine, Other}
use Rattle.reading.specs.declared.Read.TheVariants.{Whole, Alarm}
use Rattle.reading.specs.Reading.{longest_tape, History, nothing_read, line_alarm, noted, ends_with, read_lines, read_of}
use Rattle.reading.specs.Filling.{Filled, nothing_filled, filed, room_alarm, alarm_with, Readings, read_lines_with, read_with, most_places}
use Rattle.reading.proofs.Tabled.{judged_head, none_itself}

-- ---- a word has two bytes at least: its address, and one of its number
no_number : (k : NumberForm) → number_of k [] ≡ Bad
unfolding number_of path_of digits_in digits_of
no_number Path = refl
no_number TwoDigits = refl
no_number FourDigits = refl
no_number FiveDigits = refl
no_number DNumber = refl

abbrev EndsBehind : ℕ → NextWord → Type 0
EndsBehind n (next.Word w end) = n ≤ end
EndsBehind n next.End = Unit {0}
EndsBehind n next.Fault = Unit {0}

behind_less : (m n : ℕ) (x : NextWord) → m ≤ n → EndsBehind n x → EndsBehind m x
behind_less m n (next.Word w end) l h = omega arith
behind_less m n next.End l h = tt
behind_less m n next.Fault l h = tt

number_behind : (s : List ℕ) (a i : ℕ) (k : NumberForm) (from end : ℕ) → EndsBehind (suc from) (number_word s a i k from end)
unfolding number_word
number_behind s a i k from end = go (ltb from end) refl
  where
    some : (x : Number) → suc from ≤ end → EndsBehind (suc from) (word_by a i x end)
    some Bad h = tt
    some (Value v p) h = h

    go : (t : Bool) → ltb from end ≡ t → EndsBehind (suc from) (word_by a i (number_of k (take (end - from) (drop from s))) end)
    go true q = some (number_of k (take (end - from) (drop from s))) (ltb-true from end q)
    go false q =
        let l : end ≤ from = ltb-false from end q in
        let z : end - from ≡ 0 = omega arith in
        rw (z, no_number k) tt

indexed_behind : (s : List ℕ) (a : ℕ) (k : NumberForm) (from end : ℕ) → EndsBehind (suc from) (indexed_word s a k from end)
unfolding indexed_word
indexed_behind s a k from end = which (eqb a letter_p || eqb a letter_d) (ltb (end - from) 2) (is_digit (get_or s from 0) && eqb (get_or s (from + 1) 0) equals)
  where
    which : (t u v : Bool)
        → EndsBehind (suc from) (behind_index s a k (cond t (cond u index.Bad (cond v (index.At (get_or s from 0 - digit_zero) (from + 2)) index.Bad)) (index.At 0 from)) end)
    which false u v = number_behind s a 0 k from end
    which true true v = tt
    which true false true =
        behind_less (suc from) (suc (from + 2)) (number_word s a (get_or s from 0 - digit_zero) k (from + 2) end) (omega arith) (number_behind s a (get_or s from 0 - digit_zero) k (from + 2) end)
    which true false false = tt

addressed_behind : (s : List ℕ) (a : ℕ) (x : Address) (from end : ℕ) → EndsBehind (suc from) (addressed s a x from end)
addressed_behind s a Unknown from end = tt
addressed_behind s a (Known k) from end = indexed_behind s a k from end

next_behind : (s : List ℕ) → EndsBehind 2 (next_word s 0)
unfolding next_word word_at
next_behind s = by (gap_of false 0 s)
  where
    which : (p : ℕ) (t : Bool)
        → EndsBehind 2 (cond t (addressed s (capital (get_or s p 0)) (form_of (capital (get_or s p 0))) (p + 1) (seek_from ends_number s (p + 1))) next.End)
    which p true = behind_less 2 (suc (p + 1)) (addressed s (capital (get_or s p 0)) (form_of (capital (get_or s p 0))) (p + 1) (seek_from ends_number s (p + 1))) (omega arith) (addressed_behind s (capital (get_or s p 0)) (form_of (capital (get_or s p 0))) (p + 1) (seek_from ends_number s (p + 1)))
    which p false = tt

    by : (g : Gap) → EndsBehind 2 (behind_gap g (λ p. cond (ltb p (length s)) (word_at s p) next.End))
    by gap.Fault = tt
    by (gap.At p) = which p (ltb p (length s))

-- ---- a line that begins with a word has two bytes at least
pub two_bytes : (s : List ℕ) → (head_of s ≡ Blank → ⊥) → 2 ≤ length s
unfolding head_of
two_bytes s n = by (next_word s 0) (next_behind s) (next_in s 0 (omega arith)) n
  where
    by : (x : NextWord) → EndsBehind 2 x → NextIn x 0 (length s) → (head_of_next x ≡ Blank → ⊥) → 2 ≤ length s
    by (next.Word w end) h i m = omega (arith, h, i.1)
    by next.End h i m = absurd (m refl)
    by next.Fault h i m = absurd (m refl)

-- a line behind which the tape goes on has an end
feed_behind : (s : List ℕ) (p : ℕ) → (line_at s p).after < length s → (line_at s p).stop < (line_at s p).after
unfolding line_at
feed_behind s p = go (seek_from is_line_feed s p) (ltb (seek_from is_line_feed s p) (length s)) refl (ltb p (seek_from is_line_feed s p) && eqb (get_or s (seek_from is_line_feed s p - 1) 0) cr)
  where
    go : (n : ℕ) (t : Bool) → ltb n (length s) ≡ t → (u : Bool) → let r : Line = cond t (record { stop = cond u (n - 1) n; after = n + 1 }) (record { stop = n; after = n }) in
        r.after < length s → r.stop < r.after
    go n true q true h = omega arith
    go n true q false h = omega arith
    go n false q u h = absurd (omega (arith, h, ltb-false n (length s) q))

three_bytes : (s : List ℕ) (p : ℕ) → p < length s → 2 ≤ length (text_at s p).bytes → (line_at s p).after < length s → p + 3 ≤ (line_at s p).after
three_bytes s p inside two on =
    omega (arith, two, length-take ((line_at s p).stop - p) (drop p s), feed_behind s p on)

-- ---- the row on the way
row_grows : (f : Filled) (head : Head) (place p after : ℕ) → 3 * length f.row ≤ p → p < after → ((head ≡ Blank → ⊥) → p + 3 ≤ after) → 3 * length (filed f head place).row ≤ after
unfolding filed
row_grows f (ProgramLine n) place p after r l t = omega (arith, inserted_length (entry_of (line_key n) place) f.row, t (λ z. let y : ◌≡◌ {A = ℕ} 0 1 = cc in omega arith))
row_grows f (BlockLine n) place p after r l t = omega (arith, inserted_length (entry_of (block_key f.present n) place) f.row, t (λ z. let y : ◌≡◌ {A = ℕ} 0 1 = cc in omega arith))
row_grows f Blank place p after r l t = omega arith
row_grows f (Other lacks) place p after r l t = omega arith

-- where there is room, the table gives no alarm
room_there : (size : ℕ) (row : List ℕ) (head : Head) → length row < size → room_alarm size row head ≡ 0
unfolding room_alarm
room_there size row (ProgramLine n) few = rw (lt-leb size (length row) few)
room_there size row (BlockLine n) few = rw (lt-leb size (length row) few)
room_there size row Blank few = refl
room_there size row (Other lacks) few = refl

alarm_same : (points : Bool) (size : ℕ) (h : History) (f : Filled) (j : Judged) → length f.row < size → alarm_with points size h f j ≡ line_alarm points h j
unfolding alarm_with
alarm_same points size h f j few =
    ap (λ (x : ℕ). cond (eqb (line_alarm points h j) 0) x (line_alarm points h j)) (room_there size f.row j.head few) ∙ same (eqb (line_alarm points h j) 0) refl
  where
    same : (t : Bool) → eqb (line_alarm points h j) 0 ≡ t → cond t 0 (line_alarm points h j) ≡ line_alarm points h j
    same true q = sym (eqb-true (line_alarm points h j) 0 q)
    same false q = refl

-- ---- a table that is long enough: every line gets the alarm of the first layout
module _ (points : Bool) (tape : List ℕ) (first size : ℕ) (short : length tape ≤ longest_tape) (long : most_places ≤ size) where
  abbrev Same : ℕ → History → Filled → Type 0
  Same p h f = (read_lines_with points size first (length tape) h f (lines tape p)).read ≡ read_lines points first (length tape) h (lines tape p)

  same_end : (p : ℕ) (h : History) (f : Filled) → length tape ≤ p → Same p h f
  unfolding read_lines_with read_lines
  same_end p h f l =
      ap (λ (x : List Text). (read_lines_with points size first (length tape) h f x).read) (lines_end tape p l) ∙ sym (ap (read_lines points first (length tape) h) (lines_end tape p l))

  same_step : (p : ℕ) (h : History) (f : Filled) → p < length tape → 3 * length f.row ≤ p
      → ((k : History) (g : Filled) → ((line_at tape p).after < length tape → 3 * length g.row ≤ (line_at tape p).after) → Same (line_at tape p).after k g) → Same p h f
  unfolding read_lines_with read_lines
  same_step p h f inside few rest =
      ap (λ (x : List Text). (read_lines_with points size first (length tape) h f x).read) opened
      ∙ go (line_alarm points h j) refl (ends_with j.head j.ends)
      ∙ sym (ap (read_lines points first (length tape) h) opened)
    where
      j : Judged
      j = judged (text_at tape p).bytes

      k : History
      k = noted h j.head

      g : Filled
      g = filed f j.head p

      opened : lines tape p ≡ text_at tape p ∷ lines tape (line_at tape p).after
      opened = lines_more tape p inside

      bounds : LineIn (line_at tape p) p (length tape)
      bounds = line_in_lem tape p (omega arith)

      is_same : alarm_with points size h f j ≡ line_alarm points h j
      is_same = alarm_same points size h f j (omega (arith, few, inside, short, long))

      grown : alarm_with points size h f j ≡ 0 → (line_at tape p).after < length tape → 3 * length g.row ≤ (line_at tape p).after
      grown z on =
          row_grows f j.head p p (line_at tape p).after few (bounds.onward inside)
          (λ n. three_bytes tape p inside (two_bytes (text_at tape p).bytes (λ b. n (judged_head (text_at tape p).bytes (none_itself points size h f j z) ∙ b))) on)

      go : (a : ℕ) → line_alarm points h j ≡ a → (v : Bool)
          → (cond {A = Readings} (eqb (alarm_with points size h f j) 0) (cond v (record { read = Whole first (line_at tape p).after; row = g.row }) (read_lines_with points size first (length tape) k g (lines tape (line_at tape p).after))) (record { read = Alarm (alarm_with points size h f j) p; row = f.row })).read
          ≡ cond (eqb (line_alarm points h j) 0) (cond v (Whole first (line_at tape p).after) (read_lines points first (length tape) k (lines tape (line_at tape p).after))) (Alarm (line_alarm points h j) p)
      go zero q true = rw (is_same ∙ q, q)
      go zero q false = rw (is_same ∙ q, q) (rest k g (grown (is_same ∙ q)))
      go (suc a) q v = rw (is_same ∙ q, q, ne_eqb (suc a) 0 (λ z. omega (arith, z)))

  same_all : (k : ℕ) (p : ℕ) (h : History) (f : Filled) → p ≤ length tape → length tape - p ≤ k → (p < length tape → 3 * length f.row ≤ p) → Same p h f
  same_all zero p h f l m few = same_end p h f (omega arith)
  same_all (suc k) p h f l m few = go (ltb p (length tape)) refl (λ a b h' f' c. same_all k (line_at tape p).after h' f' a b c)
    where
      go : (t : Bool) → ltb p (length tape) ≡ t
          → ((line_at tape p).after ≤ length tape → length tape - (line_at tape p).after ≤ k → (h' : History) (f' : Filled)
          → ((line_at tape p).after < length tape → 3 * length f'.row ≤ (line_at tape p).after) → Same (line_at tape p).after h' f') → Same p h f
      go true z rest =
          let i : p < length tape = ltb-true p (length tape) z in
          let b : LineIn (line_at tape p) p (length tape) = line_in_lem tape p l in
          let o : p < (line_at tape p).after = b.onward i in
          same_step p h f i (few i) (rest b.ends (omega arith))
      go false z rest = same_end p h f (ltb-false p (length tape) z)

-- THE LAW: "all lists and alarms stay", of reading
pub all_stay : (points : Bool) (size : ℕ) (tape : List ℕ) → length tape ≤ longest_tape → most_places ≤ size → (read_with points size tape).read ≡ read_of points tape
unfolding read_with read_of
all_stay points size tape short long = go (ltb (seek_from opens_tape tape 0) (length tape)) refl
  where
    go : (t : Bool) → ltb (seek_from opens_tape tape 0) (length tape) ≡ t
        → (cond {A = Readings} t (read_lines_with points size (seek_from opens_tape tape 0) (length tape) nothing_read nothing_filled (lines tape (seek_from opens_tape tape 0))) (record { read = Alarm alarms.no_program 0; row = [] })).read
        ≡ cond t (read_lines points (seek_from opens_tape tape 0) (length tape) nothing_read (lines tape (seek_from opens_tape tape 0))) (Alarm alarms.no_program 0)
    go true l =
        let i : seek_from opens_tape tape 0 < length tape = ltb-true (seek_from opens_tape tape 0) (length tape) l in
        same_all points tape (seek_from opens_tape tape 0) size short long (length tape) (seek_from opens_tape tape 0) nothing_read nothing_filled (omega arith) (omega arith) (λ _. omega arith)
    go false l = refl
