-- What a turning cycle that is not too short has: it goes some way on both axes.
-- Assumes nothing.
use mathlib.Core.Path.{◌≡◌, refl}
use mathlib.Core.Bool.{false}
use Prim.Native.Nat.{ℕ, zero, suc, ◌<◌}
use native.Mathlib.Omega.{arith}
use lib.Dec.{eqb}
use borrow.Author.Tests.{eqb-false}
use Rattle.axes.specs.Axis.{net}
use Rattle.axes.proofs.Places.{neither}
use Rattle.turning.specs.declared.Turning.{Turning}
use Rattle.turning.specs.Turning.{too_short}

some : (n : ℕ) → eqb n 0 ≡ false → 0 < n
some zero e = absurd (eqb-false 0 0 e refl)
some (suc n) e = omega arith

pub long_enough : (c : Turning) → too_short c ≡ false → (0 < net c.infeed) × (0 < net c.path)
unfolding too_short
long_enough c e =
    let both = neither (eqb (net c.infeed) 0) (eqb (net c.path) 0) e in
    (some (net c.infeed) both.0, some (net c.path) both.1)
