-- Rows that a wrong program would cut, and that `Evenly` rules out. The order of the pieces, and a thin last piece where the greatest piece cannot be
-- smaller (7 as 3, 3, 1), are ruled out by `divided` itself: every contract cites that.
-- Assumes nothing.
use mathlib.Core.Path.{◌≡◌, refl}
use mathlib.Core.List.{[], ◌∷◌}
use Prim.Native.Nat.{ℕ, ◌≤◌}
use native.Mathlib.Omega.{arith}
use Rattle.division.specs.Division.{Evenly}

-- full pieces and a thin last one: 2,500 four times is as short, and its greatest piece is smaller
pub thin_last : Evenly 10000 3000 (3000 ∷ 3000 ∷ 3000 ∷ 1000 ∷ []) → ⊥
thin_last h = let k : 3000 ≤ 2500 = h.flattest (2500 ∷ 2500 ∷ 2500 ∷ 2500 ∷ []) refl refl in omega arith

-- the first piece copied to all: the length is overrun
pub copied_first : Evenly 10001 3000 (2501 ∷ 2501 ∷ 2501 ∷ 2501 ∷ []) → ⊥
copied_first h = let k : ◌≡◌ {A = ℕ} 10004 10001 = h.adds_up in omega arith

-- one piece too many: four are enough
pub one_too_many : Evenly 10000 3000 (2000 ∷ 2000 ∷ 2000 ∷ 2000 ∷ 2000 ∷ []) → ⊥
one_too_many h = let k : 5 ≤ 4 = h.fewest (2500 ∷ 2500 ∷ 2500 ∷ 2500 ∷ []) refl (omega arith) in omega arith

-- one piece too few: it is above the greatest
pub one_too_few : Evenly 10000 3000 (3334 ∷ 3333 ∷ 3333 ∷ []) → ⊥
one_too_few h = let k : 3334 ≤ 3000 = h.within in omega arith
