-- A test that holds of every number of a range, or of all but a few, computed once. Assumes nothing.
use Prim.Native.Nat.{ℕ, zero, suc, ◌+◌, ◌<◌, ◌≤◌}
use mathlib.Core.Bool.{Bool, true, false, ◌&&◌, ◌||◌, not}
use mathlib.Core.List.{List, [], ◌∷◌}
use mathlib.Core.Logic.{◌⊎◌, inl, inr, ⊎_elim}
use mathlib.Core.Path.{◌≡◌, refl, ap, subst}
use native.Mathlib.Omega.{arith}
use borrow.Author.Tests.{ne_eqb}
use lib.Dec.{T}
use Rattle.whole.specs.Among.{among}

-- the k numbers from lo on
abbrev pub each : (ℕ → Bool) → ℕ → ℕ → Bool
each P lo zero = true
each P lo (suc k) = P lo && each P (suc lo) k

both : (a b : Bool) → T (a && b) → T a × T b
both true b t = (tt, t)
both false b t = absurd t

-- the first, or one after it
split : (lo n : ℕ) → lo ≤ n → (lo ≡ n) ⊎ (suc lo ≤ n)
split zero zero h = inl refl
split zero (suc n) h = inr (omega arith)
split (suc l) zero h = absurd (omega (arith, h))
split (suc l) (suc n) h = ⊎_elim (λ e. inl (ap suc e)) (λ g. inr (omega arith)) (split l n (omega arith))

pub within : (P : ℕ → Bool) (lo k n : ℕ) → T (each P lo k) → lo ≤ n → n < lo + k → T (P n)
within P lo zero n t l h = absurd (omega (arith, l, h))
within P lo (suc k) n t l h =
    let b : T (P lo) × T (each P (suc lo) k) = both (P lo) (each P (suc lo) k) t in
    ⊎_elim (λ e. subst (λ (x : ℕ). T (P x)) e b.0) (λ g. within P (suc lo) k n b.1 g (omega arith)) (split lo n l)

-- n is none of a row
abbrev pub Outside : List ℕ → ℕ → Type 0
Outside [] n = Unit {0}
Outside (k ∷ ks) n = (n ≡ k → ⊥) × Outside ks n

not_among : (ks : List ℕ) (n : ℕ) → Outside ks n → among n ks ≡ false
not_among [] n o = refl
not_among (k ∷ ks) n o = rw (ne_eqb n k o.0) (not_among ks n o.1)

pub within_but : (ks : List ℕ) (P : ℕ → Bool) (lo k n : ℕ) → T (each (λ m. among m ks || P m) lo k) → lo ≤ n → n < lo + k → Outside ks n → T (P n)
within_but ks P lo k n t l h o = rw (not_among ks n o) at (within (λ m. among m ks || P m) lo k n t l h)

pub T_true : (b : Bool) → T b → b ≡ true
T_true true t = refl
T_true false t = absurd t

pub T_false : (b : Bool) → T (not b) → b ≡ false
T_false true t = absurd t
T_false false t = refl
