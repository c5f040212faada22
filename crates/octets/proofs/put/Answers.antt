use Rattle.std.proofs.Common.{arith}
use Rattle.octets.proofs.Laying.{lent_part}
use Rattle.octets.proofs.put.Goals as goal

pub returns : goal.returns
returns g c = lent_part _ _ _ _ _ (omega arith) c.copy_from_slice.ensures.after c.copy_from_slice.ensures.len
