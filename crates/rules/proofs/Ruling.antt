-- Laws of the tests that the word rules are made of.
-- Assumes nothing.
use mathlib.Core.Path.{◌≡◌, refl, sym, ap, ◌∙◌, subst}
use mathlib.Core.Bool.{Bool, true, false, not, ◌&&◌, ◌||◌}
use mathlib.Core.List.{List, [], ◌∷◌}
use Prim.Native.Nat.{ℕ, zero, suc, ◌+◌, ◌≤◌}
use native.Mathlib.Numerals.{add-one}
use native.Mathlib.Omega.{arith}
use lib.Dec.{T, eqb}
use lib.ListN.{length, get_or, take, drop}
use lib.Seq.{drop-cons}
use Rattle.std.specs.List.{fold, list_any}
use borrow.Author.Tests.{ne_eqb}
use Rattle.block.specs.declared.Block.{Block}
use Rattle.stands.specs.Stands.{is_taken}
use Rattle.block.specs.Slots.{numbers_from, has, any_of, any_in}

-- a test that was found to hold of one before it, or holds of it
pub or_more : (found t rest : Bool) → (found || (t || rest)) ≡ ((found || t) || rest)
or_more true t rest = refl
or_more false t rest = refl

pub or_end : (found : Bool) → (found || false) ≡ found
or_end true = refl
or_end false = refl

-- whether a word applies in some of the slots whose places these are, or was found before
abbrev pub or_some : Bool → ℕ → Bool
or_some found place = found || not (eqb place 0)

pub some_folded : (b : Block) (n from : ℕ) → from + n ≤ length b.place → (found : Bool) → fold or_some found (take n (drop from b.place)) ≡ (found || any_in b (numbers_from from n))
unfolding any_of has
some_folded b zero from h found = sym (or_end found)
some_folded b (suc n) from h found =
    rw (drop-cons b.place from 0 (omega (arith, h)), ← add-one from) (some_folded b n (from + 1) (omega (arith, h)) (or_some found (get_or b.place from 0)) ∙ sym (or_more found (has b from) (any_in b (numbers_from (from + 1) n))))

-- the four that are taken, as a list
pub taken_any : (takes : List ℕ) (i : ℕ) → length takes ≡ 4 → list_any (λ y. eqb y i) takes ≡ is_taken takes i
unfolding is_taken
taken_any (a ∷ (b ∷ (c ∷ (d ∷ [])))) i h = ap (λ (t : Bool). eqb a i || (eqb b i || (eqb c i || t))) (or_end (eqb d i))
taken_any [] i h = absurd (omega (arith, h))
taken_any (a ∷ []) i h = absurd (omega (arith, h))
taken_any (a ∷ (b ∷ [])) i h = absurd (omega (arith, h))
taken_any (a ∷ (b ∷ (c ∷ []))) i h = absurd (omega (arith, h))
taken_any (a ∷ (b ∷ (c ∷ (d ∷ (e ∷ r))))) i h = absurd (omega (arith, h))

-- a slot whose place was tested
pub has_some : (b : Block) (k : ℕ) → (get_or b.place k 0 ≡ 0 → ⊥) → has b k ≡ true
unfolding has
has_some b k h = rw (ne_eqb (get_or b.place k 0) 0 h)

pub has_none : (b : Block) (k : ℕ) → get_or b.place k 0 ≡ 0 → has b k ≡ false
unfolding has
has_none b k h = rw h

-- a rule of two tests, of which the second is asked only where the first holds; u is the first as the code has it
pub first_fails : (t u x : Bool) → u ≡ t → not u ≡ true → false ≡ (t && x)
first_fails t true x e f = absurd (subst T (sym f) tt)
first_fails t false x e f = ap (λ (b : Bool). b && x) e

pub second_tells : (t u x y : Bool) → u ≡ t → not u ≡ false → y ≡ x → y ≡ (t && x)
second_tells t true x y e f g = g ∙ ap (λ (b : Bool). b && x) e
second_tells t false x y e f g = absurd (subst T f tt)

-- tests that are equal part by part are equal
pub both : {t u x y : Bool} → t ≡ u → x ≡ y → (t && x) ≡ (u && y)
both {u = u} {x = x} e f = ap (λ (b : Bool). b && x) e ∙ ap (λ (b : Bool). u && b) f

pub either : {t u x y : Bool} → t ≡ u → x ≡ y → (t || x) ≡ (u || y)
either {u = u} {x = x} e f = ap (λ (b : Bool). b || x) e ∙ ap (λ (b : Bool). u || b) f
