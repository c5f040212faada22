-- Laws of words: what `form_of` answers on a range of bytes, the bounds of the next word, and the words of a line opened one word at a time.
-- Assumes nothing.
use Prim.Native.Nat.{ℕ, zero, suc, ◌+◌, ◌-◌, ◌<◌, ◌≤◌}
use mathlib.Core.Bool.{Bool, true, false, cond, ◌||◌}
use mathlib.Core.List.{List}
use mathlib.Core.Path.{◌≡◌, refl, sym, ap, ◌∙◌}
use native.Mathlib.Omega.{arith}
use borrow.Author.Tests.{ltb-true, le-ltb}
use lib.Dec.{T, eqb, eqb→eq, ltb}
use lib.ListN.{length, take, drop, get_or}
use Rattle.whole.specs.Among.{among}
use Rattle.numbers.specs.declared.NumberForm.{NumberForm}
use Rattle.numbers.specs.declared.NumberForm.TheVariants.{Path, TwoDigits, FourDigits, FiveDigits, DNumber}
use Rattle.numbers.specs.declared.Number.{Number}
use Rattle.numbers.specs.declared.Number.TheVariants.{Value, Bad}
use Rattle.numbers.specs.Numbers.{number_of}
use Rattle.tape.specs.declared.line.Gap.{Gap}
use Rattle.tape.specs.declared.line.Gap.TheVariants as gap
use Rattle.tape.specs.Lines.{seek_from, gap_of, GapIn}
use Rattle.tape.proofs.Lining.{gap_in, gap_end}
use Rattle.tape.proofs.Scanning.{scan_within}
use Rattle.addresses.specs.declared.Index.{Index}
use Rattle.addresses.specs.declared.Index.TheVariants as index
use Rattle.addresses.specs.declared.Address.{Address}
use Rattle.addresses.specs.declared.Address.TheVariants.{Known, Unknown}
use Rattle.addresses.specs.declared.NextWord.{NextWord}
use Rattle.addresses.specs.declared.NextWord.TheVariants.{Word, End, Fault}
use Rattle.addresses.specs.Words.{capital, ends_number, form_of, word_by, number_word, index_of, behind_index, indexed_word, addressed, word_at, behind_gap, next_word, NextIn, Words, word, onward, words_up, words_from}
use Rattle.addresses.proofs.Ranges.{each, Outside, within_but}

-- the answers of `form_of` as numbers, by which they are compared
abbrev pub code : Address → ℕ
code Unknown = 0
code (Known Path) = 1
code (Known TwoDigits) = 2
code (Known FourDigits) = 3
code (Known FiveDigits) = 4
code (Known DNumber) = 5

abbrev coded : ℕ → Address
coded zero = Unknown
coded (suc zero) = Known Path
coded (suc (suc zero)) = Known TwoDigits
coded (suc (suc (suc zero))) = Known FourDigits
coded (suc (suc (suc (suc zero)))) = Known FiveDigits
coded (suc (suc (suc (suc (suc n))))) = Known DNumber

coded_code : (x : Address) → coded (code x) ≡ x
coded_code Unknown = refl
coded_code (Known Path) = refl
coded_code (Known TwoDigits) = refl
coded_code (Known FourDigits) = refl
coded_code (Known FiveDigits) = refl
coded_code (Known DNumber) = refl

-- an answer that is the same for each of the k bytes from lo on, but for a row of them
pub form_in : (v : Address) (ks : List ℕ) (lo k a : ℕ) → T (each (λ n. among n ks || eqb (code (form_of n)) (code v)) lo k) → lo ≤ a → a < lo + k → Outside ks a → v ≡ form_of a
form_in v ks lo k a t l h o =
    let e : code (form_of a) ≡ code v = eqb→eq (code (form_of a)) (code v) (within_but ks (λ n. eqb (code (form_of n)) (code v)) lo k a t l h o) in
    sym (coded_code v) ∙ sym (ap coded e) ∙ coded_code (form_of a)

-- a word ends where its number part ends
module _ (s : List ℕ) (p end : ℕ) (l : p < end) (h : end ≤ length s) where
  number_in : (a i : ℕ) (k : NumberForm) (from : ℕ) → NextIn (number_word s a i k from end) p (length s)
  unfolding number_word
  number_in a i k from = go (number_of k (take (end - from) (drop from s)))
    where
      go : (x : Number) → NextIn (word_by a i x end) p (length s)
      go Bad = tt
      go (Value v q) = (l, h)

  indexed_in : (a : ℕ) (k : NumberForm) (from : ℕ) → NextIn (indexed_word s a k from end) p (length s)
  unfolding indexed_word
  indexed_in a k from = go (index_of s a from end)
    where
      go : (x : Index) → NextIn (behind_index s a k x end) p (length s)
      go (index.At i number) = number_in a i k number
      go index.Bad = tt

  addressed_in : (a : ℕ) (x : Address) (from : ℕ) → NextIn (addressed s a x from end) p (length s)
  addressed_in a Unknown from = tt
  addressed_in a (Known k) from = indexed_in a k from

-- a word by its index, and that there is none without one
module _ (s : List ℕ) (a from end : ℕ) {x : Index} (e : x ≡ index_of s a from end) where
  pub by_index : (k : NumberForm) {i number : ℕ} → x ≡ index.At i number → number_word s a i k number end ≡ indexed_word s a k from end
  unfolding indexed_word
  by_index k h = ap (λ (y : Index). behind_index s a k y end) (sym h ∙ e)

  pub no_index : (y : Address) → x ≡ index.Bad → Fault ≡ addressed s a y from end
  unfolding indexed_word
  no_index Unknown h = refl
  no_index (Known k) h = ap (λ (y : Index). behind_index s a k y end) (sym h ∙ e)

pub word_in : (s : List ℕ) (p : ℕ) → p < length s → NextIn (word_at s p) p (length s)
unfolding word_at
word_in s p h =
    let a = capital (get_or s p 0) in
    addressed_in s p (seek_from ends_number s (p + 1)) (omega arith) (scan_within ends_number s (p + 1) (omega arith)) a (form_of a) (p + 1)

-- what is the word at a place has its bounds
pub word_by_lem : (s : List ℕ) (p : ℕ) → p < length s → {r : NextWord} → r ≡ word_at s p → (r ≡ word_at s p) × NextIn r p (length s)
word_by_lem s p h e = (e, rw e (word_in s p h))

-- what lies behind p lies behind every i before it
further : (x : NextWord) (i p n : ℕ) → i ≤ p → NextIn x p n → NextIn x i n
further (Word w end) i p n h o = (omega arith, o.1)
further End i p n h o = tt
further Fault i p n h o = tt

module _ (s : List ℕ) (i : ℕ) (h : i ≤ length s) where
  pub next_in : NextIn (next_word s i) i (length s)
  unfolding next_word
  next_in = behind (gap_of false i (drop i s)) (gap_in s i h)
    where
      at : (p : ℕ) (t : Bool) → ltb p (length s) ≡ t → i ≤ p → NextIn (cond t (word_at s p) End) i (length s)
      at p true e l = further (word_at s p) i p (length s) l (word_in s p (ltb-true p (length s) e))
      at p false e l = tt

      behind : (g : Gap) → GapIn g i (length s) → NextIn (behind_gap g (λ p. cond (ltb p (length s)) (word_at s p) End)) i (length s)
      behind gap.Fault o = tt
      behind (gap.At p) o = at p (ltb p (length s)) refl o.0

  -- what is the next word from a place on has its bounds
  pub next_by : {r : NextWord} → r ≡ next_word s i → (r ≡ next_word s i) × NextIn r i (length s)
  next_by e = (e, rw e next_in)

-- at the end of a line there is none
pub next_end : (s : List ℕ) (i : ℕ) → length s ≤ i → next_word s i ≡ End
unfolding next_word
next_end s i h = rw (gap_end s i h, le-ltb i (length s) h)

-- the words behind a word, where the word ends further on
onward_same : (x : NextWord) (f g : ℕ → Words) (i n : ℕ) → NextIn x i n → ((end : ℕ) → i < end → end ≤ n → f end ≡ g end) → onward x f ≡ onward x g
onward_same (Word w end) f g i n o e = ap (λ (ws : Words). word w ws) (e end o.0 o.1)
onward_same End f g i n o e = refl
onward_same Fault f g i n o e = refl

-- more fuel than there are bytes changes nothing
words_fuel : (k m : ℕ) (s : List ℕ) (i : ℕ) → i ≤ length s → length s - i < k → length s - i < m → words_up k s i ≡ words_up m s i
unfolding words_up
words_fuel zero m s i h a b = absurd (omega (arith, a))
words_fuel (suc k) zero s i h a b = absurd (omega (arith, b))
words_fuel (suc k) (suc m) s i h a b =
    onward_same (next_word s i) (λ end. words_up k s end) (λ end. words_up m s end) i (length s) (next_in s i h)
    (λ end l o. words_fuel k m s end o (omega arith) (omega arith))

pub words_more : (s : List ℕ) (i : ℕ) → i ≤ length s → words_from s i ≡ onward (next_word s i) (λ end. words_from s end)
unfolding words_from words_up
words_more s i h =
    onward_same (next_word s i) (λ end. words_up (length s) s end) (λ end. words_up (suc (length s)) s end) i (length s) (next_in s i h)
    (λ end l o. words_fuel (length s) (suc (length s)) s end o (omega arith) (omega arith))
