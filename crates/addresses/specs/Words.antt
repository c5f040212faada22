-- 01: "Known addresses: N G X Z U W F S T M L P D." 02: "I and K, numbers like X". "Small letters count as capitals." "Spaces may stand around words and not inside one; a comment counts
-- as a space." "P and D carry an index digit and `=`, as `D3=600`. The part of a word after its address is read as a number by one rule."
use Rattle.std.specs.Prelude.{Bool, false, cond, not, ◌&&◌, ◌||◌, List, [], ◌∷◌, ℕ, zero, suc, ◌+◌, ◌-◌, ◌<◌, ◌≤◌, leb, ltb, eqb, nat_abs, length, get_or, take, drop}
use Rattle.whole.specs.Among.{among}
use Rattle.letters.specs.Letters.{space, percent, opening, equals, digit_zero, letter_d, letter_f, letter_g, letter_i, letter_k, letter_l, letter_m, letter_n, letter_o, letter_p, letter_s, letter_t, letter_u, letter_w, letter_x, letter_z}
use Rattle.numbers.specs.declared.NumberForm.{NumberForm}
use Rattle.numbers.specs.declared.NumberForm.TheVariants.{Path, TwoDigits, FourDigits, FiveDigits, DNumber}
use Rattle.numbers.specs.declared.Number.{Number}
use Rattle.numbers.specs.declared.Number.TheVariants.{Value, Bad}
use Rattle.numbers.specs.Numbers.{is_digit, number_of}
use Rattle.tape.specs.declared.line.Gap.{Gap}
use Rattle.tape.specs.declared.line.Gap.TheVariants as gap
use Rattle.tape.specs.Lines.{seek_from, gap_of}
use Rattle.addresses.specs.declared.NextWord.{NextWord}
use Rattle.addresses.specs.declared.NextWord.TheVariants.{Word, End, Fault}
use Rattle.addresses.specs.declared.Index.{Index}
use Rattle.addresses.specs.declared.Index.TheVariants as index
use Rattle.addresses.specs.declared.Address.{Address}
use Rattle.addresses.specs.declared.Address.TheVariants.{Known, Unknown}

-- "Small letters count as capitals": a to z are 97 to 122, A to Z 65 to 90
unfoldable pub capital : ℕ → ℕ
capital b = cond (leb 97 b && leb b 122) (b - 32) b

-- what ends a number: a letter, `%`, a space or `(`
unfoldable pub ends_number : ℕ → Bool
ends_number b = (leb 65 b && leb b 90) || ((leb 97 b && leb b 122) || among b (percent ∷ space ∷ opening ∷ []))

-- the form of number that an address takes. `%` and `O` are addresses of program numbers, as first word; behind another word `gather` of the crate
-- `block` makes them a fault
unfoldable pub form_of : ℕ → Address
form_of a =
    cond (among a (letter_x ∷ letter_z ∷ letter_u ∷ letter_w ∷ letter_i ∷ letter_k ∷ letter_p ∷ [])) (Known Path)
    (cond (among a (letter_g ∷ letter_m ∷ [])) (Known TwoDigits)
    (cond (among a (letter_n ∷ letter_f ∷ letter_s ∷ letter_t ∷ percent ∷ letter_o ∷ [])) (Known FourDigits)
    (cond (among a (letter_l ∷ [])) (Known FiveDigits) (cond (among a (letter_d ∷ [])) (Known DNumber) Unknown))))

-- a word of an address, an index and a number, which ends at `end`
abbrev pub word_by : ℕ → ℕ → Number → ℕ → NextWord
word_by a i Bad end = Fault
word_by a i (Value v p) end = Word (record { address = a; index = i; value = v; pointed = p }) end

-- the word whose number part stands from `from` to `end`
unfoldable pub number_word : List ℕ → ℕ → ℕ → NumberForm → ℕ → ℕ → NextWord
number_word s a i form from end = word_by a i (number_of form (take (end - from) (drop from s))) end

-- "P and D carry an index digit and `=`": the index of a word whose number part ends at `end`, and where its number begins. Another address has none, which counts as 0
abbrev pub index_of : List ℕ → ℕ → ℕ → ℕ → Index
index_of s a from end =
    cond (eqb a letter_p || eqb a letter_d)
    (cond (ltb (end - from) 2) index.Bad
    (cond (is_digit (get_or s from 0) && eqb (get_or s (from + 1) 0) equals) (index.At (get_or s from 0 - digit_zero) (from + 2)) index.Bad))
    (index.At 0 from)

-- the number begins within the word
abbrev pub IndexIn : Index → ℕ → Type 0
IndexIn (index.At i from) end = from ≤ end
IndexIn index.Bad end = Unit {0}

abbrev pub behind_index : List ℕ → ℕ → NumberForm → Index → ℕ → NextWord
behind_index s a form (index.At i from) end = number_word s a i form from end
behind_index s a form index.Bad end = Fault

-- the word of an address that takes a form of number
unfoldable pub indexed_word : List ℕ → ℕ → NumberForm → ℕ → ℕ → NextWord
indexed_word s a form from end = behind_index s a form (index_of s a from end) end

abbrev pub addressed : List ℕ → ℕ → Address → ℕ → ℕ → NextWord
addressed s a Unknown from end = Fault
addressed s a (Known form) from end = indexed_word s a form from end

-- the word whose address stands at p
unfoldable pub word_at : List ℕ → ℕ → NextWord
word_at s p = addressed s (capital (get_or s p 0)) (form_of (capital (get_or s p 0))) (p + 1) (seek_from ends_number s (p + 1))

abbrev pub behind_gap : Gap → (ℕ → NextWord) → NextWord
behind_gap gap.Fault k = Fault
behind_gap (gap.At p) k = k p

-- the next word from a place on
unfoldable pub next_word : List ℕ → ℕ → NextWord
next_word s i = behind_gap (gap_of false i (drop i s)) (λ p. cond (ltb p (length s)) (word_at s p) End)

-- 02: "a setting turns missing points into an alarm for X Z U W. Zero without a point stays allowed": a word of these addresses, without a point, that is not 0 in any spelling
unfoldable pub lacks_point : Rattle.addresses.specs.declared.Word.Word → Bool
lacks_point w = among w.address (letter_x ∷ letter_z ∷ letter_u ∷ letter_w ∷ []) && (not w.pointed && not (eqb (nat_abs w.value) 0))

-- a word ends behind where it was looked for, and within the line
abbrev pub NextIn : NextWord → ℕ → ℕ → Type 0
NextIn (Word w end) from n = (from < end) × (end ≤ n)
NextIn End from n = Unit {0}
NextIn Fault from n = Unit {0}

-- the words of a line, one after the other, to its end or to a fault
pub data Words : Type 0 where
  word : Rattle.addresses.specs.declared.Word.Word → Words → Words
  ended : Words
  faulty : Words

abbrev pub onward : NextWord → (ℕ → Words) → Words
onward (Word w end) k = word w (k end)
onward End k = ended
onward Fault k = faulty

-- at most k words from a place on; k is never used up, since each word has a byte at least
unfoldable pub words_up : ℕ → List ℕ → ℕ → Words
words_up zero s i = ended
words_up (suc k) s i = onward (next_word s i) (λ end. words_up k s end)

-- the words of a line from a place on: no line has more words than bytes
unfoldable pub words_from : List ℕ → ℕ → Words
words_from s i = words_up (suc (length s)) s i
