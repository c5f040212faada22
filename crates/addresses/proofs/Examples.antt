-- Words as they must be read, computed from the definitions: 01's P8 and the edges of its number rules.
-- Assumes nothing.
use mathlib.Core.Path.{◌≡◌, refl}
use mathlib.Core.Bool.{Bool, true, false}
use Prim.Native.Nat.{ℕ}
use lib.IntN.{ℤ, pos}
use Rattle.letters.specs.Letters.{letter_d, letter_g, letter_x}
use Rattle.letters.specs.Text.{bytes}
use Rattle.numbers.specs.Numbers.{digits_of, unsigned_path, path_of, digits_in, number_of}
use Rattle.tape.specs.Lines.{seek, gap_of}
use Rattle.addresses.specs.declared.NextWord.{NextWord}
use Rattle.addresses.specs.declared.NextWord.TheVariants.{Word, Fault}
use Rattle.addresses.specs.Words.{capital, ends_number, form_of, number_word, indexed_word, word_at, next_word}

-- a word that was read, and the place behind it
abbrev is : ℕ → ℕ → ℤ → Bool → ℕ → NextWord
is a i v p end = Word (record { address = a; index = i; value = v; pointed = p }) end

-- P8: `X40` is 40
pub x40 : next_word (bytes "X40") 0 ≡ is letter_x 0 (pos 40) false 3
unfolding seek gap_of digits_of unsigned_path path_of number_of capital ends_number form_of number_word indexed_word word_at next_word
x40 = refl

-- P8: `X40.` is 40,000
pub x40_point : next_word (bytes "X40.") 0 ≡ is letter_x 0 (pos 40000) true 4
unfolding seek gap_of digits_of unsigned_path path_of number_of capital ends_number form_of number_word indexed_word word_at next_word
x40_point = refl

-- `X.5` is 500
pub x_point_5 : next_word (bytes "X.5") 0 ≡ is letter_x 0 (pos 500) true 3
unfolding seek gap_of digits_of unsigned_path path_of number_of capital ends_number form_of number_word indexed_word word_at next_word
x_point_5 = refl

-- `X.` and `X-` are faults
pub x_point : next_word (bytes "X.") 0 ≡ Fault
unfolding seek gap_of digits_of unsigned_path path_of number_of capital ends_number form_of number_word indexed_word word_at next_word
x_point = refl

pub x_minus : next_word (bytes "X-") 0 ≡ Fault
unfolding seek gap_of digits_of unsigned_path path_of number_of capital ends_number form_of number_word indexed_word word_at next_word
x_minus = refl

-- `X+0012.5` is 12,500
pub x_plus : next_word (bytes "X+0012.5") 0 ≡ is letter_x 0 (pos 12500) true 8
unfolding seek gap_of digits_of unsigned_path path_of number_of capital ends_number form_of number_word indexed_word word_at next_word
x_plus = refl

-- `X12345678` has a digit too many
pub x_long : next_word (bytes "X12345678") 0 ≡ Fault
unfolding seek gap_of digits_of unsigned_path path_of number_of capital ends_number form_of number_word indexed_word word_at next_word
x_long = refl

-- `D3=32767` is good, `D3=32768` is a fault
pub d_most : next_word (bytes "D3=32767") 0 ≡ is letter_d 3 (pos 32767) false 8
unfolding seek gap_of digits_of digits_in number_of capital ends_number form_of number_word indexed_word word_at next_word
d_most = refl

pub d_above : next_word (bytes "D3=32768") 0 ≡ Fault
unfolding seek gap_of digits_of digits_in number_of capital ends_number form_of number_word indexed_word word_at next_word
d_above = refl

-- `G001` has a digit too many
pub g_long : next_word (bytes "G001") 0 ≡ Fault
unfolding seek gap_of digits_of digits_in number_of capital ends_number form_of number_word indexed_word word_at next_word
g_long = refl

-- ` (A) g1X-2`: a gap is passed over, a small letter is a capital, and a letter ends the number
pub gap_small : next_word (bytes " (A) g1X-2") 0 ≡ is letter_g 0 (pos 1) false 7
unfolding seek gap_of digits_of digits_in number_of capital ends_number form_of number_word indexed_word word_at next_word
gap_small = refl
