-- The laws of the machine between two blocks.
-- Assumes nothing.
use mathlib.Core.Path.{◌≡◌, sym, ap, ◌∙◌}
use mathlib.Core.Bool.{Bool, true, false, cond}

-- ---- a value that a block's word gives, else the one before; t is whether the word stands in the block, and u is t as the code has it
module _ {A : Type 0} {t u : Bool} where
  pub given : {r x : A} (before : A) → u ≡ t → u ≡ true → r ≡ x → r ≡ cond t x before
  given {x = x} before e f g = g ∙ ap (λ (b : Bool). cond b x before) (sym f ∙ e)

  pub stays : (x before : A) → u ≡ t → u ≡ false → before ≡ cond t x before
  stays x before e f = ap (λ (b : Bool). cond b x before) (sym f ∙ e)
