-- `moves::list::room` meets its contract.
-- What a branch says is read off by `omega`, so that a condition that is another is refused for what it fails.
use native.Mathlib.Omega.{arith}
use Rattle.moves.specs.Form.{room_of}
use Rattle.moves.proofs.list.room.Statement.{statement}
use Rattle.moves.proofs.list.room.Tie as tie

pub room_spec : {M : Type 1} → statement M
unfolding room_of
room_spec = tie.close (tie.spec (λ c. omega arith) (λ c. omega arith) (λ c. omega arith))
