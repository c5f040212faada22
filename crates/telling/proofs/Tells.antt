-- A test that tells whether something holds, as two clauses of a contract say it: where the test is true it holds, and where it holds the test is true.
-- Assumes nothing.
use mathlib.Core.Path.{◌≡◌, refl, sym, ◌∙◌, subst}
use mathlib.Core.Bool.{Bool, true, false}
use Prim.Native.Nat.{ℕ, ◌≤◌, ◌<◌}
use native.Mathlib.Omega.{arith}
use lib.Dec.{ltb, leb, eqb}
use borrow.Author.Tests.{lt-ltb, ltb-true, le-leb, leb-true, eq-eqb, eqb-true}

abbrev pub Tells : Bool → Type 0 → Type 0
Tells test fact = (test ≡ true → fact) × (fact → test ≡ true)

pub never : false ≡ true → ⊥
never e = let z : ◌≡◌ {A = ℕ} 0 1 = cc in omega arith

-- what cannot hold is told by false, and what holds by true
pub tells_no : {fact : Type 0} → (fact → ⊥) → Tells false fact
tells_no never-holds = ((λ e. absurd (never e)), (λ h. absurd (never-holds h)))

pub tells_yes : {fact : Type 0} → fact → Tells true fact
tells_yes h = ((λ e. h), (λ f. refl))

-- where a test is false, what it tells does not hold
pub told_no : {test : Bool} {fact : Type 0} → Tells test fact → test ≡ false → fact → ⊥
told_no t e h = never (sym e ∙ t.1 h)

-- tests of two numbers, which tell what follows from the order or the equality, and from which that follows
pub tells_at_most : (a b : ℕ) {fact : Type 0} → (a ≤ b → fact) → (fact → a ≤ b) → Tells (leb a b) fact
tells_at_most a b to from = ((λ e. to (leb-true a b e)), (λ h. le-leb a b (from h)))

pub tells_same : (a b : ℕ) {fact : Type 0} → (a ≡ b → fact) → (fact → a ≡ b) → Tells (eqb a b) fact
tells_same a b to from = ((λ e. to (eqb-true a b e)), (λ h. eq-eqb a b (from h)))

-- whether something is left
pub tells_some : (n : ℕ) → Tells (ltb 0 n) (0 < n)
tells_some n = (ltb-true 0 n, lt-ltb 0 n)

-- what is told of a thing is told of one that equals it
pub tells_of : {A : Type 0} (about : A → Type 0) {test : Bool} {a b : A} → a ≡ b → Tells test (about b) → Tells test (about a)
tells_of about {test} e t = subst (λ x. Tells test (about x)) (sym e) t
