-- What stands with a motion, computed from the table.
-- Assumes nothing.
use mathlib.Core.Path.{◌≡◌, refl}
use mathlib.Core.Bool.{true, false}
use mathlib.Core.List.{[], ◌∷◌, map}
use Prim.Native.Nat.{ℕ}
use Rattle.codes.specs.declared.Motion.TheVariants as motion
use Rattle.codes.specs.Codes.{g_code}
use Rattle.stands.specs.Stands.{stands_freely, stands_with, stands_by, is_taken}

-- "I or K beside another group 0 word in 9": they may stand with G02 and G03, and where no such word stands
pub with_centre : map (λ (n : ℕ). (stands_by (g_code n)).centre) (0 ∷ 1 ∷ 2 ∷ 3 ∷ 33 ∷ 4 ∷ 84 ∷ 85 ∷ 86 ∷ 87 ∷ 88 ∷ 71 ∷ [])
    ≡ (false ∷ false ∷ true ∷ true ∷ false ∷ false ∷ false ∷ false ∷ false ∷ false ∷ false ∷ true ∷ [])
unfolding g_code stands_by stands_with stands_freely
with_centre = refl

-- "D0 D2 D3 with G84; D3 D4 D5 with G86"
pub with_g84 : map (is_taken (stands_with motion.Turning).takes) (0 ∷ 1 ∷ 2 ∷ 3 ∷ 4 ∷ 5 ∷ []) ≡ (true ∷ false ∷ true ∷ true ∷ false ∷ false ∷ [])
unfolding stands_with is_taken
with_g84 = refl

pub with_g86 : map (is_taken (stands_with motion.Grooving).takes) (0 ∷ 1 ∷ 2 ∷ 3 ∷ 4 ∷ 5 ∷ []) ≡ (false ∷ false ∷ false ∷ true ∷ true ∷ true ∷ [])
unfolding stands_with is_taken
with_g86 = refl

-- 02, G85: "D words but D3 D4 D6 D7 .. in 9"
pub with_g85 : map (is_taken (stands_with motion.Threading).takes) (0 ∷ 1 ∷ 2 ∷ 3 ∷ 4 ∷ 5 ∷ 6 ∷ 7 ∷ 8 ∷ 9 ∷ [])
    ≡ (false ∷ false ∷ false ∷ true ∷ true ∷ false ∷ true ∷ true ∷ false ∷ false ∷ [])
unfolding stands_with is_taken
with_g85 = refl

-- 02, G87 and G88: "D words but D3 to D6 in 9"
pub with_g87 : map (is_taken (stands_with motion.ChipBreaking).takes) (0 ∷ 1 ∷ 2 ∷ 3 ∷ 4 ∷ 5 ∷ 6 ∷ 7 ∷ 8 ∷ 9 ∷ [])
    ≡ (false ∷ false ∷ false ∷ true ∷ true ∷ true ∷ true ∷ false ∷ false ∷ false ∷ [])
unfolding stands_with is_taken
with_g87 = refl

pub with_g88 : stands_with motion.Redrawing ≡ stands_with motion.ChipBreaking
unfolding stands_with
with_g88 = refl

-- a motion that takes no D word
pub with_g01 : map (is_taken (stands_with motion.Feed).takes) (0 ∷ 1 ∷ 2 ∷ 3 ∷ 4 ∷ 5 ∷ 6 ∷ 7 ∷ 8 ∷ 9 ∷ [])
    ≡ (false ∷ false ∷ false ∷ false ∷ false ∷ false ∷ false ∷ false ∷ false ∷ false ∷ [])
unfolding stands_with is_taken
with_g01 = refl
