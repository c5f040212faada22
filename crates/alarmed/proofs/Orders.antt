-- An order by its first test that says yes: a number, 0 for none.
-- Assumes nothing.
use mathlib.Core.Path.{◌≡◌, refl, sym, ap, ◌∙◌, subst}
use mathlib.Core.Bool.{Bool, true, false, cond, ◌&&◌}
use mathlib.Core.List.{List, [], ◌∷◌}
use Prim.Native.Nat.{ℕ}
use native.Mathlib.Omega.{arith}
use lib.Dec.{T, ltb}
use borrow.Author.Tests.{ltb-true}
use Rattle.alarmed.specs.Order.{Row, Passes, none, no, Refused, yes, later}

unfoldable pub first : {A : Type 0} → List (Row A) → A → ℕ
first [] x = 0
first (r ∷ rs) x = cond (r.test x) r.number (first rs x)

-- no number of an order is 0: one test, which is computed
abbrev pub numbered : {A : Type 0} → List (Row A) → Bool
numbered [] = true
numbered (r ∷ rs) = ltb 0 r.number && numbered rs

abbrev pub Above : {A : Type 0} → List (Row A) → Type 0
Above rs = numbered rs ≡ true

both : (a b : Bool) → (a && b) ≡ true → (a ≡ true) × (b ≡ true)
both true b e = (refl, e)
both false b e = absurd (subst T (sym e) tt)

above_one : {A : Type 0} (r : Row A) (rs : List (Row A)) → Above (r ∷ rs) → r.number ≡ 0 → ⊥
above_one r rs a z = omega (arith, ltb-true 0 r.number (both (ltb 0 r.number) (numbered rs) a).0, z)

above_rest : {A : Type 0} (r : Row A) (rs : List (Row A)) → Above (r ∷ rs) → Above rs
above_rest r rs a = (both (ltb 0 r.number) (numbered rs) a).1

module _ {A : Type 0} (x : A) where
  passes_by : (r : Row A) (rs : List (Row A)) (t : Bool) → r.test x ≡ t → (r.number ≡ 0 → ⊥) → cond t r.number (first rs x) ≡ 0 → (first rs x ≡ 0 → Passes x rs) → Passes x (r ∷ rs)
  passes_by r rs true e a h f = absurd (a h)
  passes_by r rs false e a h f = no e (f h)

  pub passes : (rs : List (Row A)) → Above rs → first rs x ≡ 0 → Passes x rs
  unfolding first
  passes [] a h = none
  passes (r ∷ rs) a h = passes_by r rs (r.test x) refl (above_one r rs a) h (passes rs (above_rest r rs a))

  refused_by_lem : (n : ℕ) (r : Row A) (rs : List (Row A)) (t : Bool) → r.test x ≡ t → cond t r.number (first rs x) ≡ n → (first rs x ≡ n → Refused x n rs) → Refused x n (r ∷ rs)
  refused_by_lem n r rs true e h f = yes e (sym h)
  refused_by_lem n r rs false e h f = later e (f h)

  pub refused : (n : ℕ) → (n ≡ 0 → ⊥) → (rs : List (Row A)) → first rs x ≡ n → Refused x n rs
  unfolding first
  refused n some [] h = absurd (some (sym h))
  refused n some (r ∷ rs) h = refused_by_lem n r rs (r.test x) refl h (refused n some rs)

  -- and back
  pub passes_first : {rs : List (Row A)} → Passes x rs → first rs x ≡ 0
  unfolding first
  passes_first none = refl
  passes_first (no {r} {rs} e p) = ap (λ (t : Bool). cond t r.number (first rs x)) e ∙ passes_first p

  pub refused_first : {n : ℕ} {rs : List (Row A)} → Refused x n rs → first rs x ≡ n
  unfolding first
  refused_first (yes {r} {rs} e h) = ap (λ (t : Bool). cond t r.number (first rs x)) e ∙ sym h
  refused_first (later {r} {rs} e p) = ap (λ (t : Bool). cond t r.number (first rs x)) e ∙ refused_first p

  pub refused_some : {n : ℕ} {rs : List (Row A)} → Above rs → Refused x n rs → n ≡ 0 → ⊥
  refused_some a (yes {r} {rs} e h) z = above_one r rs a (sym h ∙ z)
  refused_some a (later {r} {rs} e p) z = refused_some (above_rest r rs a) p z
