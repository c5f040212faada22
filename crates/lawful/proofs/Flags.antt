-- The flag of a kind, as the code finds it.
-- Assumes nothing.
use mathlib.Core.Path.{◌≡◌, sym, ap, ◌∙◌}
use mathlib.Core.Bool.{Bool, true, false, cond, ◌||◌}
use Prim.Native.Nat.{ℕ}
use lib.Dec.{eqb}
use borrow.Author.Tests.{eq-eqb, ne_eqb}
use Rattle.moves.specs.Kinds.{feed_kind, speed_kind, is_arc, flag_g95, flag_g96}
use Rattle.lawful.specs.Right.{flag_of}

module _ (kind : ℕ) {t : Bool} (e : t ≡ (eqb kind feed_kind || is_arc kind)) where
  pub flag_first : t ≡ true → flag_g95 ≡ flag_of kind
  unfolding flag_of
  flag_first h = ap (λ (q : Bool). cond q flag_g95 (cond (eqb kind speed_kind) flag_g96 0)) (sym h ∙ e)

  none_first : t ≡ false → cond (eqb kind speed_kind) flag_g96 0 ≡ flag_of kind
  unfolding flag_of
  none_first h = ap (λ (q : Bool). cond q flag_g95 (cond (eqb kind speed_kind) flag_g96 0)) (sym h ∙ e)

  pub flag_second : t ≡ false → kind ≡ speed_kind → flag_g96 ≡ flag_of kind
  flag_second h k = ap (λ (q : Bool). cond q flag_g96 0) (sym (eq-eqb kind speed_kind k)) ∙ none_first h

  pub no_flag : t ≡ false → (kind ≡ speed_kind → ⊥) → 0 ≡ flag_of kind
  no_flag h k = ap (λ (q : Bool). cond q flag_g96 0) (sym (ne_eqb kind speed_kind k)) ∙ none_first h
