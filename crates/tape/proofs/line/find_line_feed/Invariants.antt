-- The scan from `from` on comes to what the scan from i on comes to.
use Rattle.std.proofs.Common.{◌≡◌, ◌≤◌, length}
use Rattle.tape.specs.Lines.{seek_from, is_line_feed}
use Rattle.tape.proofs.line.find_line_feed.Given as goal

abbrev pub invariant-loop-i : goal.invariant-loop-i
invariant-loop-i l = (l.from ≤ l.i) × (l.i ≤ length l.tape) × (seek_from is_line_feed l.tape l.from ≡ seek_from is_line_feed l.tape l.i)
