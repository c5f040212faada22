-- Laws of what a motion asks.
-- Assumes nothing.
use mathlib.Core.Path.{◌≡◌, refl}
use mathlib.Core.Logic.{⊎_elim}
use mathlib.Core.List.{[], ◌∷◌}
use Prim.Native.Nat.{ℕ, ◌≤◌}
use native.Mathlib.Omega.{arith}
use types.Run.{OneOf}
use denote.Enum.Declared.{tag_of}
use Rattle.codes.specs.declared.Code.{Code}
use Rattle.codes.specs.declared.Code.TheVariants as code
use Rattle.codes.specs.declared.Meaning.{Meaning}
use Rattle.codes.specs.declared.Meaning.TheVariants as means
use Rattle.codes.specs.declared.Motion.{Motion}
use Rattle.codes.specs.declared.Motion.TheVariants as motion
use Rattle.stands.specs.Stands.{none, stands_freely, stands_with, stands_by}
use Rattle.codes.specs.contracts.Meaning.{the_type}

-- a number that is no motion's
pub others_ask : (g : ℕ) (m : Meaning) → OneOf (1 ∷ 2 ∷ 3 ∷ 4 ∷ 5 ∷ 6 ∷ 7 ∷ 8 ∷ []) (tag_of the_type m) → stands_freely ≡ stands_by (code.Of g m)
unfolding stands_by
others_ask g (means.Moves m) o = absurd (⊎_elim (λ e. omega arith) (⊎_elim (λ e. omega arith) (⊎_elim (λ e. omega arith) (⊎_elim (λ e. omega arith) (⊎_elim (λ e. omega arith) (⊎_elim (λ e. omega arith) (⊎_elim (λ e. omega arith) (λ e. omega arith))))))) o)
others_ask g (means.CuttingSpeed t) o = refl
others_ask g (means.PerRevolution t) o = refl
others_ask g (means.Shift k) o = refl
others_ask g (means.Steers s) o = refl
others_ask g means.Metric o = refl
others_ask g means.Spindle o = refl
others_ask g means.Coolant o = refl
others_ask g (means.Flows f) o = refl

-- the D word that is needed has an index, or none is
motion_needs : (m : Motion) → (stands_with m).needs ≤ none
unfolding stands_with stands_freely
motion_needs motion.Rapid = omega arith
motion_needs motion.Feed = omega arith
motion_needs motion.Clockwise = omega arith
motion_needs motion.Counterclockwise = omega arith
motion_needs motion.Thread = omega arith
motion_needs motion.Dwell = omega arith
motion_needs motion.Turning = omega arith
motion_needs motion.Threading = omega arith
motion_needs motion.Grooving = omega arith
motion_needs motion.ChipBreaking = omega arith
motion_needs motion.Redrawing = omega arith

pub needs_in : (k : Code) → (stands_by k).needs ≤ none
unfolding stands_by stands_freely
needs_in (code.Of g (means.Moves m)) = motion_needs m
needs_in (code.Of g (means.CuttingSpeed t)) = omega arith
needs_in (code.Of g (means.PerRevolution t)) = omega arith
needs_in (code.Of g (means.Shift k)) = omega arith
needs_in (code.Of g (means.Steers s)) = omega arith
needs_in (code.Of g means.Metric) = omega arith
needs_in (code.Of g means.Spindle) = omega arith
needs_in (code.Of g means.Coolant) = omega arith
needs_in (code.Of g (means.Flows f)) = omega arith
needs_in code.Unknown = omega arith

-- and so has the D word that counts as bits
motion_bits : (m : Motion) → (stands_with m).bits ≤ none
unfolding stands_with stands_freely
motion_bits motion.Rapid = omega arith
motion_bits motion.Feed = omega arith
motion_bits motion.Clockwise = omega arith
motion_bits motion.Counterclockwise = omega arith
motion_bits motion.Thread = omega arith
motion_bits motion.Dwell = omega arith
motion_bits motion.Turning = omega arith
motion_bits motion.Threading = omega arith
motion_bits motion.Grooving = omega arith
motion_bits motion.ChipBreaking = omega arith
motion_bits motion.Redrawing = omega arith

pub bits_in : (k : Code) → (stands_by k).bits ≤ none
unfolding stands_by stands_freely
bits_in (code.Of g (means.Moves m)) = motion_bits m
bits_in (code.Of g (means.CuttingSpeed t)) = omega arith
bits_in (code.Of g (means.PerRevolution t)) = omega arith
bits_in (code.Of g (means.Shift k)) = omega arith
bits_in (code.Of g (means.Steers s)) = omega arith
bits_in (code.Of g means.Metric) = omega arith
bits_in (code.Of g means.Spindle) = omega arith
bits_in (code.Of g means.Coolant) = omega arith
bits_in (code.Of g (means.Flows f)) = omega arith
bits_in code.Unknown = omega arith
