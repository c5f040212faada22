-- Laws of slots and heads: an address that has none of its own.
-- Assumes nothing.
use mathlib.Core.Path.{◌≡◌}
use Prim.Native.Nat.{ℕ}
use borrow.Author.Tests.{ne_eqb}
use Rattle.letters.specs.Letters.{percent, letter_d, letter_f, letter_g, letter_i, letter_k, letter_l, letter_m, letter_n, letter_o, letter_p, letter_s, letter_t, letter_u, letter_w, letter_x, letter_z}
use Rattle.addresses.specs.Words.{lacks_point}
use Rattle.addresses.specs.declared.Word.{Word}
use Rattle.block.specs.declared.Slot.TheVariants.{Unknown}
use Rattle.block.specs.declared.Head.TheVariants.{Other}
use Rattle.block.specs.Words.{slot_of, is_program_address, head_by}

module _ (w : Word) where
  unfoldable pub Not : ℕ → Type 0
  Not n = w.address ≡ n → ⊥

  pub slot_none : Not letter_x → Not letter_z → Not letter_u → Not letter_w → Not letter_i → Not letter_k → Not letter_f → Not letter_s → Not letter_t → Not letter_l → Not letter_p → Not letter_d
      → Not letter_g → Not letter_m → Not letter_n → slot_of w ≡ Unknown
  unfolding Not slot_of
  slot_none x z u v i k f s t l p d g m n =
      rw (ne_eqb _ _ x, ne_eqb _ _ z, ne_eqb _ _ u, ne_eqb _ _ v, ne_eqb _ _ i, ne_eqb _ _ k, ne_eqb _ _ f, ne_eqb _ _ s, ne_eqb _ _ t, ne_eqb _ _ l, ne_eqb _ _ p, ne_eqb _ _ d, ne_eqb _ _ g, ne_eqb _ _ m, ne_eqb _ _ n)

  pub head_other : Not percent → Not letter_o → Not letter_n → head_by w ≡ Other (lacks_point w)
  unfolding Not head_by is_program_address
  head_other p o n = rw (ne_eqb _ _ p, ne_eqb _ _ o, ne_eqb _ _ n)
