-- The numbers of 01, computed from the table: their groups and meanings.
-- Assumes nothing.
use mathlib.Core.Path.{◌≡◌, refl}
use mathlib.Core.Bool.{true, false}
use mathlib.Core.List.{[], ◌∷◌, map}
use Prim.Native.Nat.{ℕ}
use Rattle.acts.specs.declared.Kept.TheVariants as kept
use Rattle.codes.specs.declared.Code.TheVariants.{Of, Unknown}
use Rattle.codes.specs.declared.Meaning.TheVariants as means
use Rattle.codes.specs.declared.Motion.TheVariants as motion
use Rattle.codes.specs.Codes.{g_code, m_code}
use Rattle.acts.specs.Acting.{keep, motion_by, shift_by, cutting_by, revolution_by, ends_by, returns_by}

-- "G54 and G55 call shifts 1 and 2, G57 to G59 shifts 3 to 5 (001); G53 and G56 cancel"
pub shifts : map (λ (n : ℕ). shift_by (g_code n) 9) (53 ∷ 54 ∷ 55 ∷ 56 ∷ 57 ∷ 58 ∷ 59 ∷ []) ≡ (0 ∷ 1 ∷ 2 ∷ 0 ∷ 3 ∷ 4 ∷ 5 ∷ [])
unfolding g_code shift_by
shifts = refl

-- G94 to G97
pub feeds : map (λ (n : ℕ). revolution_by (g_code n) false) (94 ∷ 95 ∷ []) ≡ (false ∷ true ∷ [])
unfolding g_code revolution_by
feeds = refl

pub speeds : map (λ (n : ℕ). cutting_by (g_code n) false) (96 ∷ 97 ∷ []) ≡ (true ∷ false ∷ [])
unfolding g_code cutting_by
speeds = refl

-- numbers beside the ranges
pub no_g : map g_code (5 ∷ 32 ∷ 52 ∷ 60 ∷ 83 ∷ 89 ∷ 93 ∷ 98 ∷ []) ≡ (Unknown ∷ Unknown ∷ Unknown ∷ Unknown ∷ Unknown ∷ Unknown ∷ Unknown ∷ Unknown ∷ [])
unfolding g_code
no_g = refl

pub no_m : map m_code (1 ∷ 2 ∷ 6 ∷ 7 ∷ 10 ∷ []) ≡ (Unknown ∷ Unknown ∷ Unknown ∷ Unknown ∷ Unknown ∷ [])
unfolding m_code
no_m = refl

-- "M groups: 0 is 03 04 05; 3 is 08 09"; M30 ends, M17 returns
pub m_groups_are : map m_code (3 ∷ 5 ∷ 8 ∷ 9 ∷ []) ≡ (Of 0 means.Spindle ∷ Of 0 means.Spindle ∷ Of 3 means.Coolant ∷ Of 3 means.Coolant ∷ [])
unfolding m_code
m_groups_are = refl

pub ends : map (λ (n : ℕ). ends_by (m_code n)) (0 ∷ 17 ∷ 30 ∷ []) ≡ (false ∷ false ∷ true ∷ [])
unfolding m_code ends_by
ends = refl

pub returns : map (λ (n : ℕ). returns_by (m_code n)) (0 ∷ 17 ∷ 30 ∷ []) ≡ (false ∷ true ∷ false ∷ [])
unfolding m_code returns_by
returns = refl

-- "04 84 86 (that block only; the kept one stays)"
pub stays : keep (kept.Of motion.Turning) (kept.Of motion.Feed) ≡ kept.Of motion.Feed
unfolding keep
stays = refl

pub threads_stay : keep (kept.Of motion.Threading) (kept.Of motion.Feed) ≡ kept.Of motion.Feed
unfolding keep
threads_stay = refl

pub drills_stay : keep (kept.Of motion.Redrawing) (kept.Of motion.Feed) ≡ kept.Of motion.Feed
unfolding keep
drills_stay = refl

-- 02: "G02 and G03 are kept"; "G02 is clockwise"
pub arcs_kept : map (λ (n : ℕ). keep (motion_by (g_code n) kept.Nothing) (kept.Of motion.Feed)) (2 ∷ 3 ∷ []) ≡ (kept.Of motion.Clockwise ∷ kept.Of motion.Counterclockwise ∷ [])
unfolding g_code motion_by keep
arcs_kept = refl
