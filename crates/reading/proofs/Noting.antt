-- The row of the table shows what was read: a program number is repeated where the row has its line, and a block number where it has that block of the present program.
-- Assumes nothing.
use mathlib.Core.Path.{◌≡◌, refl, sym, ◌∙◌, subst}
use mathlib.Core.Bool.{Bool, true, false, ◌||◌}
use Prim.Native.Nat.{ℕ, ◌<◌}
use native.Mathlib.Omega.{arith}
use lib.Dec.{T, eqb}
use borrow.Author.Tests.{eqb-true, eqb-false}
use Rattle.places.specs.Places.{sixteen_bits, line_key, block_key, entry_of, Row, inserted, is_held, highest_slot}
use Rattle.places.specs.Lines.{no_program}
use Rattle.places.proofs.Walks.{line_keys, line_block, block_line, block_programs, block_numbers, still, held_own, held_other, not_held}
use Rattle.whole.specs.Among.{among}
use Rattle.block.specs.declared.Head.TheVariants.{ProgramLine, BlockLine}
use Rattle.reading.specs.Reading.{History, nothing_read, noted}
use Rattle.reading.specs.Filling.{Filled, nothing_filled, filed}

pub record Sound (h : History) (f : Filled) : Type 0 where
  pub ascends : Row f.row
  pub flags : (n : ℕ) → is_held (line_key n) f.row ≡ among n h.programs
  pub marks : (n : ℕ) → n < highest_slot → is_held (block_key f.present n) f.row ≡ among n h.blocks
  -- a program that was not read has no block, and is not the present one
  pub none : (c n : ℕ) → n < highest_slot → c < no_program → among c h.programs ≡ false → is_held (block_key c n) f.row ≡ false
  pub apart : (c : ℕ) → c < no_program → among c h.programs ≡ false → c ≡ f.present → ⊥

pub sound_start : Sound nothing_read nothing_filled
unfolding is_held Rattle.places.specs.Places.looked_up
sound_start = record {
  ascends = tt;
  flags = λ n. refl;
  marks = λ n l. refl;
  none = λ c n l k f. refl;
  apart = λ c l f e. omega (arith, l, e);
}

or_false : (a b : Bool) → (a || b) ≡ false → (a ≡ false) × (b ≡ false)
or_false true b e = absurd (subst T e tt)
or_false false b e = (refl, e)

module _ {h : History} {f : Filled} (s : Sound h f) (n place : ℕ) (fits : place < sixteen_bits) where
  -- a program line
  pub sound_program : n < no_program → among n h.programs ≡ false → Sound (noted h (ProgramLine n)) (filed f (ProgramLine n) place)
  unfolding noted filed
  sound_program small fresh = record {
    ascends = still (line_key n) place fits f.row s.ascends (not_held (line_key n) f.row (s.flags n ∙ fresh));
    flags = λ m. flagged m (eqb m n) refl;
    marks = λ m l. held_other (line_key n) place fits f.row (block_key n m) (line_block n n m l) ∙ s.none n m l small fresh;
    none = λ c m l k e.
        held_other (line_key n) place fits f.row (block_key c m) (line_block n c m l) ∙ s.none c m l k (or_false (eqb c n) (among c h.programs) e).1;
    apart = λ c l e z. eqb-false c n (or_false (eqb c n) (among c h.programs) e).0 z;
  }
    where
      flagged : (m : ℕ) (t : Bool) → eqb m n ≡ t → is_held (line_key m) (inserted (entry_of (line_key n) place) f.row) ≡ (eqb m n || among m h.programs)
      flagged m true q = rw (q, eqb-true m n q) (held_own (line_key n) place fits f.row)
      flagged m false q = rw q (held_other (line_key n) place fits f.row (line_key m) (λ z. eqb-false m n q (sym (line_keys n m z))) ∙ s.flags m)

  -- a block
  pub sound_block : n < highest_slot → among n h.blocks ≡ false → Sound (noted h (BlockLine n)) (filed f (BlockLine n) place)
  unfolding noted filed
  sound_block small fresh = record {
    ascends = still (block_key f.present n) place fits f.row s.ascends (not_held (block_key f.present n) f.row (s.marks n small ∙ fresh));
    flags = λ m. held_other (block_key f.present n) place fits f.row (line_key m) (block_line f.present n m small) ∙ s.flags m;
    marks = λ m l. marked m l (eqb m n) refl;
    none = λ c m l k e.
        held_other (block_key f.present n) place fits f.row (block_key c m) (λ z. s.apart c k e (sym (block_programs f.present n c m small l z))) ∙ s.none c m l k e;
    apart = s.apart;
  }
    where
      marked : (m : ℕ) → m < highest_slot → (t : Bool) → eqb m n ≡ t
          → is_held (block_key f.present m) (inserted (entry_of (block_key f.present n) place) f.row) ≡ (eqb m n || among m h.blocks)
      marked m l true q = rw (q, eqb-true m n q) (held_own (block_key f.present n) place fits f.row)
      marked m l false q =
          rw q (held_other (block_key f.present n) place fits f.row (block_key f.present m) (λ z. eqb-false m n q (sym (block_numbers f.present n m z))) ∙ s.marks m l)
