-- The numbers of a cycle's records fit their places where the cycle's own numbers do.
-- Assumes nothing.
use mathlib.Core.Bool.{Bool, true, false}
use Prim.Native.Nat.{ℕ, ◌<◌, ◌^◌}
use native.Mathlib.Omega.{arith}
use lib.IntN.{ℤ}
use mir.Syntax.{w32}
use mir.Val.{SFits}
use Rattle.moves.specs.Form.{Fitting}
use Rattle.axes.specs.Goes.{rapid_to, feed_to, thread_to, dwell_at}

pub rapid_fitting : (facing : Bool) {i a : ℤ} → SFits w32 i → SFits w32 a → Fitting (rapid_to facing i a)
unfolding rapid_to
rapid_fitting true h g = record { kind = omega arith; flags = omega arith; x = g; z = h; value = omega arith }
rapid_fitting false h g = record { kind = omega arith; flags = omega arith; x = h; z = g; value = omega arith }

pub feed_fitting : (facing : Bool) (f : ℕ) (g95 : Bool) {i a : ℤ} → f < 2 ^ 32 → SFits w32 i → SFits w32 a → Fitting (feed_to facing f g95 i a)
unfolding feed_to
feed_fitting true f true v h g = record { kind = omega arith; flags = omega arith; x = g; z = h; value = v }
feed_fitting true f false v h g = record { kind = omega arith; flags = omega arith; x = g; z = h; value = v }
feed_fitting false f true v h g = record { kind = omega arith; flags = omega arith; x = h; z = g; value = v }
feed_fitting false f false v h g = record { kind = omega arith; flags = omega arith; x = h; z = g; value = v }

pub thread_fitting : (facing : Bool) (pitch : ℕ) {i a : ℤ} → pitch < 2 ^ 32 → SFits w32 i → SFits w32 a → Fitting (thread_to facing pitch i a)
unfolding thread_to
thread_fitting true pitch v h g = record { kind = omega arith; flags = omega arith; x = g; z = h; value = v }
thread_fitting false pitch v h g = record { kind = omega arith; flags = omega arith; x = h; z = g; value = v }

pub dwell_fitting : (facing : Bool) (t : ℕ) {i a : ℤ} → t < 2 ^ 32 → SFits w32 i → SFits w32 a → Fitting (dwell_at facing t i a)
unfolding dwell_at
dwell_fitting true t v h g = record { kind = omega arith; flags = omega arith; x = g; z = h; value = v }
dwell_fitting false t v h g = record { kind = omega arith; flags = omega arith; x = h; z = g; value = v }
