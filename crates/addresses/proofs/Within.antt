-- The bounds of a word that was read, by its address.
-- Assumes nothing.
use mathlib.Core.Path.{◌≡◌, refl, sym, subst}
use mathlib.Core.Bool.{Bool, true, false, cond, ◌&&◌, ◌||◌}
use mathlib.Core.List.{List}
use Prim.Native.Nat.{ℕ, ◌+◌, ◌-◌, ◌<◌}
use native.Mathlib.Omega.{arith}
use borrow.Author.Tests.{leb-true}
use lib.Dec.{T, leb, ltb, eqb}
use lib.IntN.{ℤ}
use lib.ListN.{length, get_or, take, drop}
use Rattle.letters.specs.Letters.{equals, digit_zero, digit_nine, letter_d, letter_p}
use Rattle.numbers.specs.declared.NumberForm.{NumberForm}
use Rattle.numbers.specs.declared.Number.{Number}
use Rattle.numbers.specs.declared.Number.TheVariants.{Value, Bad}
use Rattle.numbers.specs.Numbers.{is_digit, number_of}
use Rattle.numbers.proofs.Bounds.{Read, cond_ind, WithinForm, number_read}
use Rattle.tape.specs.declared.line.Gap.{Gap}
use Rattle.tape.specs.declared.line.Gap.TheVariants as gap
use Rattle.tape.specs.Lines.{seek_from, gap_of}
use Rattle.addresses.specs.declared.Index.{Index}
use Rattle.addresses.specs.declared.Index.TheVariants as index
use Rattle.addresses.specs.declared.Address.{Address}
use Rattle.addresses.specs.declared.Address.TheVariants.{Known, Unknown}
use Rattle.addresses.specs.declared.NextWord.{NextWord}
use Rattle.addresses.specs.declared.NextWord.TheVariants.{Word, End, Fault}
use Rattle.addresses.specs.declared.Word as w
use Rattle.addresses.specs.Words.{capital, ends_number, form_of, word_by, number_word, behind_index, indexed_word, addressed, word_at, behind_gap, next_word}

-- the numbers that an address takes
abbrev pub Within : Address → ℤ → Type 0
Within (Known k) z = WithinForm k z
Within Unknown z = Unit {0}

-- the number is one that its address takes, and the index is a digit
pub record WordIn (x : w.Word) : Type 0 where
  pub number : Within (form_of x.address) x.value
  pub index : x.index < 10

abbrev pub NextWithin : NextWord → Type 0
NextWithin (Word w end) = WordIn w
NextWithin End = Unit {0}
NextWithin Fault = Unit {0}

by_number : (a i : ℕ) (k : NumberForm) (n : Number) (end : ℕ) → form_of a ≡ Known k → i < 10 → Read (WithinForm k) n → NextWithin (word_by a i n end)
by_number a i k (Value v p) end e h r = record { number = subst (λ (t : Address). Within t v) (sym e) r; index = h }
by_number a i k Bad end e h r = tt

number_word_lem : (s : List ℕ) (a i : ℕ) (k : NumberForm) (from end : ℕ) → form_of a ≡ Known k → i < 10 → NextWithin (number_word s a i k from end)
unfolding number_word
number_word_lem s a i k from end e h = by_number a i k (number_of k (take (end - from) (drop from s))) end e h (number_read k (take (end - from) (drop from s)))

digit_index : (b : ℕ) (t : Bool) → (is_digit b && t) ≡ true → b - digit_zero < 10
digit_index b t e = go (leb digit_zero b) (leb b digit_nine) t refl refl e
  where
    go : (x y z : Bool) → leb digit_zero b ≡ x → leb b digit_nine ≡ y → (x && y && z) ≡ true → b - digit_zero < 10
    go true true z p q e = omega (arith, leb-true b digit_nine q)
    go true false z p q e = absurd (subst T (sym e) tt)
    go false y z p q e = absurd (subst T (sym e) tt)

indexed_word_lem : (s : List ℕ) (a : ℕ) (k : NumberForm) (from end : ℕ) → form_of a ≡ Known k → NextWithin (indexed_word s a k from end)
unfolding indexed_word
indexed_word_lem s a k from end e =
    let P : Index → Type 0 = λ x. NextWithin (behind_index s a k x end) in
    cond_ind P (eqb a letter_p || eqb a letter_d) _ (index.At 0 from)
    (λ _. cond_ind P (ltb (end - from) 2) index.Bad _ (λ _. tt)
    (cond_ind P (is_digit (get_or s from 0) && eqb (get_or s (from + 1) 0) equals) _ index.Bad
    (λ d. number_word_lem s a (get_or s from 0 - digit_zero) k (from + 2) end e (digit_index (get_or s from 0) (eqb (get_or s (from + 1) 0) equals) d)) tt))
    (number_word_lem s a 0 k from end e (omega arith))

by_address : (s : List ℕ) (a : ℕ) (t : Address) (from end : ℕ) → form_of a ≡ t → NextWithin (addressed s a t from end)
by_address s a Unknown from end e = tt
by_address s a (Known k) from end e = indexed_word_lem s a k from end e

behind : (s : List ℕ) (g : Gap) → NextWithin (behind_gap g (λ p. cond (ltb p (length s)) (word_at s p) End))
unfolding word_at
behind s gap.Fault = tt
behind s (gap.At p) = cond_ind NextWithin (ltb p (length s)) _ End (λ _. by_address s (capital (get_or s p 0)) (form_of (capital (get_or s p 0))) (p + 1) (seek_from ends_number s (p + 1)) refl) tt

pub word_within : (s : List ℕ) (i : ℕ) → NextWithin (next_word s i)
unfolding next_word
word_within s i = behind s (gap_of false i (drop i s))
