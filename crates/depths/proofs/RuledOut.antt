-- Rows of depths that a wrong program would cut, and that `Promised` rules out.
-- Assumes nothing.
use mathlib.Core.List.{List, [], ◌∷◌}
use Prim.Native.Nat.{ℕ, suc}
use native.Mathlib.Omega.{arith}
use Rattle.division.proofs.RuledOut as even
use Rattle.depths.specs.declared.Rule.TheVariants.{EvenDepth, EvenNumber, FallingDepth, FallingNumber}
use Rattle.depths.specs.Promised.{taken, Rises, Until, more, Promised}

-- a depth that is not the last is that of the rule
by_rule_first : {R : ℕ → ℕ → Type 0} {e k x y : ℕ} {ds : List ℕ} → Until R e k (x ∷ (y ∷ ds)) → R k x
by_rule_first (more r l u) = r

behind : {R : ℕ → ℕ → Type 0} {e k x y : ℕ} {ds : List ℕ} → Until R e k (x ∷ (y ∷ ds)) → Until R e (suc k) (y ∷ ds)
behind (more r l u) = u

-- ---- D3 600, D6 1277
-- THE LAST CUT BEYOND D6: the fifth root is not made D6
pub beyond : Promised FallingDepth 600 1277 (600 ∷ 848 ∷ 1039 ∷ 1200 ∷ 1341 ∷ []) → ⊥
unfolding Rises
beyond p = absurd (omega (arith, p.rises.1.1.1.1.1))

-- THE LAST CUT LEFT OUT: D6 is not reached
pub not_reached : Promised FallingDepth 600 1277 (600 ∷ 848 ∷ 1039 ∷ 1200 ∷ []) → ⊥
unfolding Rises
not_reached p = absurd (omega (arith, p.rises.1.1.1.1))

-- CONSTANT CUTS where they were to fall: the first is not of D3
pub constant : Promised FallingDepth 600 1277 (426 ∷ 852 ∷ 1277 ∷ []) → ⊥
constant p = absurd (omega (arith, (by_rule_first p.by_rule.rule).above))

-- ONE CUT TOO MANY, at D6
pub last_twice : Promised FallingDepth 600 1277 (600 ∷ 848 ∷ 1039 ∷ 1200 ∷ 1277 ∷ 1277 ∷ []) → ⊥
last_twice p = absurd (omega (arith, p.by_rule.fewest 5 1341 (omega arith) (record { below = omega arith; above = omega arith })))

-- ROOTS ROUNDED UP
pub rounded_up : Promised FallingDepth 600 1277 (600 ∷ 849 ∷ 1040 ∷ 1200 ∷ 1277 ∷ []) → ⊥
rounded_up p = absurd (omega (arith, (by_rule_first (behind p.by_rule.rule)).below))

-- ---- D3 4 as a cut number, D6 4: A DEPTH THAT COMES TWICE IS CUT ONCE
pub cut_once : Promised FallingNumber 4 4 (2 ∷ 3 ∷ 4 ∷ []) → ⊥
cut_once p = absurd (omega (arith, p.by_rule.many))

-- ---- constant cuts, D6 10,000 with D3 3,000: A THIN LAST CUT
pub thin_last : Promised EvenDepth 3000 10_000 (3000 ∷ 6000 ∷ 9000 ∷ 10_000 ∷ []) → ⊥
unfolding taken
thin_last p = even.thin_last p.by_rule.evenly

-- as a cut number of four: ONE CUT TOO MANY
pub five_for_four : Promised EvenNumber 4 10_000 (2000 ∷ 4000 ∷ 6000 ∷ 8000 ∷ 10_000 ∷ []) → ⊥
five_for_four p = absurd (omega (arith, p.by_rule.many))
