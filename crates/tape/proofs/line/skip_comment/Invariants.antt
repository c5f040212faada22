-- The comment goes on from `from` to i, and what is left of the gap is what is left of it from i on.
use Rattle.std.proofs.Common.{◌≡◌, true, ◌≤◌, length, drop}
use Rattle.tape.specs.Lines.{gap_of}
use Rattle.tape.proofs.line.skip_comment.Given as goal

abbrev pub invariant-loop-i : goal.invariant-loop-i
invariant-loop-i l = (l.from ≤ l.i) × (l.i ≤ length l.line) × (gap_of true l.from (drop l.from l.line) ≡ gap_of true l.i (drop l.i l.line))
