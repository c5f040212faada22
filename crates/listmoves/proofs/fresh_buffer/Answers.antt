-- The buffer is fresh: as many zeros.
use Rattle.std.proofs.Common.{refl}
use Rattle.listmoves.specs.Printed.{fresh_buffer}
use Rattle.listmoves.proofs.fresh_buffer.Goals as goal

pub returns : goal.returns
unfolding fresh_buffer
returns c = refl
