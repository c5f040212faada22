-- The laws of the room of a buffer.
-- Assumes nothing.
use Prim.Native.Nat.{ℕ, ◌≤◌}
use native.Mathlib.Omega.{arith}
use Rattle.moves.specs.Form.{header_size, record_limit, record_start, room_of}

pub room_few : (bytes : ℕ) → room_of bytes ≤ record_limit
unfolding room_of
room_few bytes = omega arith

-- so many records have room behind the header
pub room_fits : (bytes k : ℕ) → header_size ≤ bytes → k ≤ room_of bytes → record_start k ≤ bytes
unfolding room_of
room_fits bytes k h l = omega (arith, h, l)
