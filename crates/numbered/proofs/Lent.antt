-- The numbers that are lent, after a reading.
-- Assumes nothing.
use mathlib.Core.Path.{◌≡◌, refl}
use mathlib.Core.List.{List, [], ◌∷◌}
use Prim.Native.Nat.{◌≤◌}
use native.Mathlib.Omega.{arith}
use lib.IntN.{ℤ, pos}
use lib.ListN.{length, get_or, drop, set}
use Rattle.numbered.specs.Numbers.{numbers_count}

-- seven stores, one behind the other
pub seven_set : (l : List ℤ) (a b c d e f g : ℤ) → numbers_count ≤ length l
    → set (set (set (set (set (set (set l 0 a) 1 b) 2 c) 3 d) 4 e) 5 f) 6 g ≡ a ∷ b ∷ c ∷ d ∷ e ∷ f ∷ g ∷ drop numbers_count l
seven_set [] a b c d e f g h = absurd (omega arith)
seven_set (p ∷ []) a b c d e f g h = absurd (omega arith)
seven_set (p ∷ (q ∷ [])) a b c d e f g h = absurd (omega arith)
seven_set (p ∷ (q ∷ (r ∷ []))) a b c d e f g h = absurd (omega arith)
seven_set (p ∷ (q ∷ (r ∷ (s ∷ [])))) a b c d e f g h = absurd (omega arith)
seven_set (p ∷ (q ∷ (r ∷ (s ∷ (t ∷ []))))) a b c d e f g h = absurd (omega arith)
seven_set (p ∷ (q ∷ (r ∷ (s ∷ (t ∷ (u ∷ [])))))) a b c d e f g h = absurd (omega arith)
seven_set (p ∷ (q ∷ (r ∷ (s ∷ (t ∷ (u ∷ (v ∷ l))))))) a b c d e f g h = refl

-- an array of seven, one by one
pub seven_is : (w : List ℤ) → length w ≡ numbers_count → get_or w 0 (pos 0) ∷ get_or w 1 (pos 0) ∷ get_or w 2 (pos 0) ∷ get_or w 3 (pos 0) ∷ get_or w 4 (pos 0) ∷ get_or w 5 (pos 0) ∷ get_or w 6 (pos 0) ∷ [] ≡ w
seven_is [] h = absurd (omega arith)
seven_is (p ∷ []) h = absurd (omega arith)
seven_is (p ∷ (q ∷ [])) h = absurd (omega arith)
seven_is (p ∷ (q ∷ (r ∷ []))) h = absurd (omega arith)
seven_is (p ∷ (q ∷ (r ∷ (s ∷ [])))) h = absurd (omega arith)
seven_is (p ∷ (q ∷ (r ∷ (s ∷ (t ∷ []))))) h = absurd (omega arith)
seven_is (p ∷ (q ∷ (r ∷ (s ∷ (t ∷ (u ∷ [])))))) h = absurd (omega arith)
seven_is (p ∷ (q ∷ (r ∷ (s ∷ (t ∷ (u ∷ (v ∷ []))))))) h = refl
seven_is (p ∷ (q ∷ (r ∷ (s ∷ (t ∷ (u ∷ (v ∷ (x ∷ l)))))))) h = absurd (omega arith)
