-- The text is laid into the buffer.
use Rattle.std.proofs.Common.{◌-◌, ◌+◌, refl, length, arith}
use Rattle.octets.proofs.Laying.{copied}
use Rattle.decimal.proofs.put_text.Goals as goal

pub returns : goal.returns
returns c =
    let a = c.args in
    record { place = refl; bytes = rw c.copy_from_slice.ensures.after (copied a.out.now a.at (a.at + length a.text.now - a.at) a.text.now (omega arith)) }
