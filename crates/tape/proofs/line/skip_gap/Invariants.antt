-- What is left of the gap is what is left of it from i on.
use Rattle.std.proofs.Common.{◌≡◌, false, ◌-◌, ◌≤◌, length, drop}
use Rattle.tape.specs.Lines.{gap_of}
use Rattle.tape.proofs.line.skip_gap.Given as goal

abbrev pub invariant-loop-i : goal.invariant-loop-i
invariant-loop-i l = (l.from ≤ l.i) × (l.i ≤ length l.line) × (gap_of false l.from (drop l.from l.line) ≡ gap_of false l.i (drop l.i l.line))

abbrev pub decreases-loop-i : goal.decreases-loop-i
decreases-loop-i l = length l.line - l.i
