-- Laws of a line's words: how the next word carries the block on, and how a line begins.
-- Assumes nothing.
use mathlib.Core.Path.{◌≡◌, refl, sym, ap, ◌∙◌}
use mathlib.Core.Bool.{Bool, true, false, cond, ◌||◌}
use mathlib.Core.List.{List}
use Prim.Native.Nat.{ℕ, ◌+◌, ◌≤◌}
use native.Mathlib.Omega.{arith}
use lib.IntN.{ℤ}
use lib.ListN.{length, set}
use Rattle.addresses.specs.Words.{onward, next_word, lacks_point, words_from}
use Rattle.addresses.specs.declared.Word.{Word}
use Rattle.addresses.specs.declared.NextWord.{NextWord}
use Rattle.addresses.specs.declared.NextWord.TheVariants as next
use Rattle.addresses.proofs.Wording.{words_more, next_end}
use Rattle.block.specs.declared.Block.{Block}
use Rattle.block.specs.declared.Slot.{Slot}
use Rattle.block.specs.declared.Slot.TheVariants.{At, Late, Unknown}
use Rattle.block.specs.declared.Head.{Head}
use Rattle.block.specs.declared.Head.TheVariants.{Blank}
use Rattle.block.specs.declared.LineStart.{LineStart}
use Rattle.block.specs.declared.LineStart.TheVariants as start
use Rattle.block.specs.declared.ReadLine.{ReadLine}
use Rattle.block.specs.Words.{slot_of, no_words, is_end, put_in, put_word, is_program_address, faulty_rest, gather, head_of_next, head_of, start_by, start_of, reading, line_by, line_of}

-- no words are no more than any number
pub none : {n : ℕ} → no_words.words ≤ n
unfolding no_words
none = omega arith

-- a word more is one more
put_in_lem : (k : Slot) (b : Block) (w : Word) → (put_in k b w).words ≡ b.words + 1
put_in_lem (At k) b w = refl
put_in_lem Late b w = refl
put_in_lem Unknown b w = refl

pub put_words : (b : Block) (w : Word) → (put_word b w).words ≡ b.words + 1
unfolding put_word
put_words b w = put_in_lem (slot_of w) b w

-- a word whose slot is known
pub put_by : (b : Block) (w : Word) {k : Slot} → slot_of w ≡ k → put_in k b w ≡ put_word b w
unfolding put_word
put_by b w e = ap (λ (k : Slot). put_in k b w) (sym e)

-- what the stores leave, with the slot's word as it came
pub stored : (b : Block) (w : Word) (k : ℕ) {v : ℤ} {t l : Bool} → v ≡ w.value → t ≡ is_end w → l ≡ lacks_point w
    → record { value = set b.value k v; place = set b.place k (b.words + 1); words = b.words + 1; late = b.late; unknown = b.unknown; ends = t; pointless = b.pointless || l } ≡ put_in (At k) b w
stored b w k e f g i = record { value = set b.value k (e i); place = set b.place k (b.words + 1); words = b.words + 1; late = b.late; unknown = b.unknown; ends = f i; pointless = b.pointless || g i }

-- and the word that has no slot
abbrev marked : Block → Bool → Bool → Bool → Bool → Block
marked b late unknown ends lacks = record { value = b.value; place = b.place; words = b.words + 1; late = late; unknown = unknown; ends = ends; pointless = b.pointless || lacks }

pub noted : (b : Block) (w : Word) {t l : Bool} (late unknown : Bool) → t ≡ is_end w → l ≡ lacks_point w → marked b late unknown t l ≡ marked b late unknown (is_end w) (lacks_point w)
noted b w late unknown f g i = marked b late unknown (f i) (g i)

-- the words of the line s from i on, by the next of them
module _ (s : List ℕ) (i : ℕ) (h : i ≤ length s) (b : Block) where
  from_next : {n : NextWord} → next_word s i ≡ n → gather b (words_from s i) ≡ gather b (onward n (λ end. words_from s end))
  from_next e = ap (gather b) (words_more s i h ∙ ap (λ (n : NextWord). onward n (λ end. words_from s end)) e)

  pub rest_fault : next_word s i ≡ next.Fault → gather b (words_from s i) ≡ faulty_rest
  unfolding gather
  rest_fault e = from_next e

  pub rest_end : next_word s i ≡ next.End → gather b (words_from s i) ≡ record { block = b; faulty = false }
  unfolding gather
  rest_end e = from_next e

  pub rest_foreign : {w : Word} {end : ℕ} → next_word s i ≡ next.Word w end → is_program_address w.address ≡ true → gather b (words_from s i) ≡ faulty_rest
  unfolding gather
  rest_foreign {w} {end} e f = from_next e ∙ ap (λ (t : Bool). cond t faulty_rest (gather (put_word b w) (words_from s end))) f

  pub rest_word : {w : Word} {end : ℕ} → next_word s i ≡ next.Word w end → is_program_address w.address ≡ false
      → gather b (words_from s i) ≡ gather (put_word b w) (words_from s end)
  unfolding gather
  rest_word {w} {end} e f = from_next e ∙ ap (λ (t : Bool). cond t faulty_rest (gather (put_word b w) (words_from s end))) f

  -- and that there are none at the line's end
  pub rest_none : length s ≤ i → gather b (words_from s i) ≡ record { block = b; faulty = false }
  rest_none l = rest_end (next_end s i l)

-- ---- a line by what it starts with
abbrev pub head_from : LineStart → Head
head_from start.Blank = Blank
head_from start.Fault = Blank
head_from (start.With h end) = h

pub head_from_lem : (s : List ℕ) → head_of s ≡ head_from (start_of s)
unfolding head_of start_of
head_from_lem s = by (next_word s 0)
  where
    by : (n : NextWord) → head_of_next n ≡ head_from (start_by n)
    by next.Fault = refl
    by next.End = refl
    by (next.Word w end) = refl

abbrev pub line_from : List ℕ → LineStart → ReadLine
line_from s start.Blank = reading Blank (record { block = no_words; faulty = false })
line_from s start.Fault = reading Blank faulty_rest
line_from s (start.With h end) = reading h (gather no_words (words_from s end))

pub line_from_lem : (s : List ℕ) → line_of s ≡ line_from s (start_of s)
unfolding line_of start_of gather
line_from_lem s = by (next_word s 0)
  where
    by : (n : NextWord) → line_by s n ≡ line_from s (start_by n)
    by next.Fault = refl
    by next.End = refl
    by (next.Word w end) = refl
