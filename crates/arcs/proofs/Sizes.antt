-- The arrows of an arc that a block gives fit, and so do their squares.
-- Assumes nothing.
use Prim.Native.Nat.{ℕ, ◌+◌, ◌*◌, ◌≤◌}
use native.Mathlib.Omega.{arith}
use native.Mathlib.Nat.{mul-le-mul}
use lib.IntN.{ℤ, pos, nat_abs, ◌-ℤ◌}
use Rattle.whole.proofs.Integers.{abs_mul}
use Rattle.arrows.specs.declared.Arrow.{Arrow}
use Rattle.arcs.specs.declared.Arc.{Arc}
use Rattle.arrows.specs.Arrows.{arrow, square}
use Rattle.arcs.specs.Arcs.{start_of, end_of}
use Rattle.arrows.specs.Known.{greatest_part, start_square, end_square, Sized}
use Rattle.arcs.specs.Known.{start_reach, end_reach, InReach}

-- an arrow of bounded parts: right within 2 x n, up within m
pub record Bounded (m n : ℕ) (a : Arrow) : Type 0 where
  pub right : nat_abs a.right ≤ 2 * n
  pub up : nat_abs a.up ≤ m

pub bounded : (m n : ℕ) (cx cz x z : ℤ) → nat_abs (x -ℤ cx) ≤ m → nat_abs (z -ℤ cz) ≤ n → Bounded m n (arrow cx cz x z)
bounded m n cx cz x z h k = record { right = omega (arith, abs_mul (pos 2) (z -ℤ cz)); up = h }

pub sized : {m n : ℕ} {a : Arrow} → Bounded m n a → m ≤ greatest_part → 2 * n ≤ greatest_part → Sized a
sized b h k = record { right = omega arith; up = omega arith }

square_most : {m n : ℕ} {a : Arrow} → Bounded m n a → square a ≤ 4 * (n * n) + m * m
unfolding square
square_most b = omega (arith, mul-le-mul b.right b.right, mul-le-mul b.up b.up)

module _ {a : Arc} (t : InReach a) where
  start_bounded : Bounded start_reach start_reach (start_of a)
  unfolding start_of
  start_bounded = bounded start_reach start_reach a.centre.x a.centre.z a.start.x a.start.z t.start_x t.start_z

  end_bounded : Bounded end_reach end_reach (end_of a)
  unfolding end_of
  end_bounded = bounded end_reach end_reach a.centre.x a.centre.z a.end.x a.end.z t.end_x t.end_z

  pub start_sized : Sized (start_of a)
  start_sized = sized start_bounded (omega arith) (omega arith)

  pub end_sized : Sized (end_of a)
  end_sized = sized end_bounded (omega arith) (omega arith)

  pub start_square_lem : square (start_of a) ≤ start_square
  start_square_lem = omega (arith, square_most start_bounded)

  pub end_square_lem : square (end_of a) ≤ end_square
  end_square_lem = omega (arith, square_most end_bounded)
