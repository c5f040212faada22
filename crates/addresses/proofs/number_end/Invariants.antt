-- The scan from `from` on comes to what the scan from i on comes to.
use Rattle.std.proofs.Common.{◌≡◌, ◌≤◌, length}
use Rattle.tape.specs.Lines.{seek_from}
use Rattle.addresses.specs.Words.{ends_number}
use Rattle.addresses.proofs.number_end.Given as goal

abbrev pub invariant-loop-i : goal.invariant-loop-i
invariant-loop-i l = (l.from ≤ l.i) × (l.i ≤ length l.line) × (seek_from ends_number l.line l.from ≡ seek_from ends_number l.line l.i)
