-- Bytes that were written into a buffer.
use Rattle.std.specs.Prelude.{◌≡◌, List, ℕ, ◌+◌, length}
use Rattle.octets.specs.Bytes.{laid}

-- the bytes w were written into b from `at` on: `next` is the place behind them, and e the buffer after it
pub record Wrote (b : List ℕ) (at : ℕ) (w : List ℕ) (next : ℕ) (e : List ℕ) : Type 0 where
  pub place : next ≡ at + length w
  pub bytes : e ≡ laid b at w
