-- A jump that stands alone in its block, told by the text behind the block's number. It serves the code, which is spared the block: that such a text has the words of G27 and L and no other
-- is a law (proofs/Texts.antt), and what they mean is said where every block is.
use Rattle.std.specs.Prelude.{Bool, false, cond, ◌&&◌, List, ℕ, eqb, pos, nat_abs, get_or, drop}
use Rattle.letters.specs.Letters.{space, letter_g, letter_l}
use Rattle.numbers.specs.declared.NumberForm.TheVariants.{FiveDigits}
use Rattle.numbers.specs.declared.Number.{Number}
use Rattle.numbers.specs.declared.Number.TheVariants.{Value, Bad}
use Rattle.numbers.specs.Numbers.{number_of}
use Rattle.addresses.specs.declared.Word.{Word}
use Rattle.block.specs.declared.Block.{Block}
use Rattle.block.specs.Words.{no_words, put_word}
use Rattle.jumping.specs.declared.Jumping.{Jumping}
use Rattle.jumping.specs.declared.Jumping.TheVariants.{To, Other}

-- ` G27 L`; 2 and 7 are the bytes 50 and 55
unfoldable pub is_front : List ℕ → Bool
is_front t =
    (eqb (get_or t 2 0) 50 && eqb (get_or t 3 0) 55)
    && ((eqb (get_or t 0 0) space && eqb (get_or t 1 0) letter_g) && (eqb (get_or t 4 0) space && eqb (get_or t 5 0) letter_l))

abbrev pub to_by : Number → Jumping
to_by (Value v pointed) = To (nat_abs v)
to_by Bad = Other

unfoldable pub jump_in : List ℕ → Jumping
jump_in t = cond (is_front t) (to_by (number_of FiveDigits (drop 6 t))) Other

-- ---- the block of such a text: the words G27 and L
abbrev pub g_word : Word
g_word = record { address = letter_g; index = 0; value = pos 27; pointed = false }

abbrev pub l_word : ℕ → Word
l_word n = record { address = letter_l; index = 0; value = pos n; pointed = false }

unfoldable pub jump_words : ℕ → Block
jump_words n = put_word (put_word no_words g_word) (l_word n)
