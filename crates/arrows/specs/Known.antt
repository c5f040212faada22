-- The ranges by which no product of the code wraps. They serve contracts and proofs.
use Rattle.std.specs.Prelude.{ℕ, ◌≤◌, ℤ, nat_abs}
use Rattle.arrows.specs.declared.Arrow.{Arrow}

-- the product of two parts up to this fits 64 bits, and so does the sum of two such products
abbrev pub greatest_part : ℕ
greatest_part = 2_000_000_000

-- an arrow of its parts
abbrev pub both : ℤ → ℤ → Arrow
both r u = record { right = r; up = u }

pub record Sized (a : Arrow) : Type 0 where
  pub right : nat_abs a.right ≤ greatest_part
  pub up : nat_abs a.up ≤ greatest_part

-- the squares of the distances of a start and of an end from the centre
abbrev pub start_square : ℕ
start_square = 10_000_000_000_000_000

abbrev pub end_square : ℕ
end_square = 100_000_000_000_000_000
