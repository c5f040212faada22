-- Neither byte stands from `from` to before i.
use Rattle.std.proofs.Common.{length, ◌-◌, ◌≤◌}
use Rattle.tape.specs.Lines.{Neither}
use Rattle.tape.proofs.line.pass_stretches.Given as goal

abbrev pub invariant-loop-i : goal.invariant-loop-i
invariant-loop-i l = (l.from ≤ l.i) × (l.i ≤ length l.bytes) × Neither l.bytes l.one l.other l.from l.i

abbrev pub decreases-loop-i : goal.decreases-loop-i
decreases-loop-i l = length l.bytes - l.i
