-- The number that a line begins with has at most four digits.
-- Assumes nothing.
use mathlib.Core.Path.{◌≡◌, refl, sym, subst}
use mathlib.Core.Bool.{Bool, true, false, cond, ◌||◌}
use mathlib.Core.List.{List}
use Prim.Native.Nat.{ℕ, ◌<◌}
use lib.Dec.{T, eqb, eqb→eq}
use lib.IntN.{ℤ, nat_abs}
use Rattle.letters.specs.Letters.{percent, letter_n, letter_o}
use Rattle.addresses.specs.Words.{form_of, next_word, lacks_point}
use Rattle.addresses.specs.declared.Word.{Word}
use Rattle.addresses.specs.declared.NextWord.{NextWord}
use Rattle.addresses.specs.declared.NextWord.TheVariants as next
use Rattle.numbers.proofs.Bounds.{Below}
use Rattle.addresses.proofs.Within.{Within, WordIn, NextWithin, word_within}
use Rattle.block.specs.declared.Head.{Head}
use Rattle.block.specs.declared.Head.TheVariants.{Blank, ProgramLine, BlockLine, Other}
use Rattle.block.specs.Words.{is_program_address, head_by, head_of_next, head_of, line_by}

-- the number of a head
abbrev pub HeadIn : Head → Type 0
HeadIn (ProgramLine n) = n < 10_000
HeadIn (BlockLine n) = n < 10_000
HeadIn Blank = Unit {0}
HeadIn (Other lacks) = Unit {0}

pub size_below : {n : ℕ} {z : ℤ} → Below n z → nat_abs z < n
size_below {n} b = subst (λ (z : ℤ). nat_abs z < n) (sym b.is) b.small

-- a word of the address a: its number is within what a takes
pub taken : (w : Word) (a : ℕ) → WordIn w → w.address ≡ a → Within (form_of a) w.value
taken w a i e = subst (λ (b : ℕ). Within (form_of b) w.value) e i.number

pub eqb_is : (a b : ℕ) → eqb a b ≡ true → a ≡ b
eqb_is a b e = eqb→eq a b (subst T (sym e) tt)

or_is : (a b : Bool) → (a || b) ≡ true → (P : Type 0) → (a ≡ true → P) → (b ≡ true → P) → P
or_is true b e P f g = f refl
or_is false b e P f g = g e

head_small : (w : Word) → WordIn w → HeadIn (head_by w)
unfolding head_by is_program_address form_of
head_small w i = go (eqb w.address percent || eqb w.address letter_o) (eqb w.address letter_n) refl refl
  where
    go : (s t : Bool) → (eqb w.address percent || eqb w.address letter_o) ≡ s → eqb w.address letter_n ≡ t
        → HeadIn (cond s (ProgramLine (nat_abs w.value)) (cond t (BlockLine (nat_abs w.value)) (Other (lacks_point w))))
    go true t e f = or_is (eqb w.address percent) (eqb w.address letter_o) e (nat_abs w.value < 10_000)
        (λ d. size_below (taken w percent i (eqb_is w.address percent d))) (λ d. size_below (taken w letter_o i (eqb_is w.address letter_o d)))
    go false true e f = size_below (taken w letter_n i (eqb_is w.address letter_n f))
    go false false e f = tt

pub line_small : (s : List ℕ) (n : NextWord) → NextWithin n → HeadIn (line_by s n).head
line_small s next.Fault i = tt
line_small s next.End i = tt
line_small s (next.Word w end) i = head_small w i

-- however the line goes on
pub head_in : (s : List ℕ) → HeadIn (head_of s)
unfolding head_of
head_in s = by (next_word s 0) (word_within s 0)
  where
    by : (n : NextWord) → NextWithin n → HeadIn (head_of_next n)
    by next.Fault i = tt
    by next.End i = tt
    by (next.Word w end) i = head_small w i
