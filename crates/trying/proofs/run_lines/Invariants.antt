use Rattle.std.proofs.Common.{length, ◌-◌, ◌≤◌}
use Rattle.moves.specs.Form.{room_of}
use Rattle.trying.specs.Carried.{Carried}
use Rattle.trying.proofs.run_lines.Given as goal

abbrev pub invariant-loop-p : goal.invariant-loop-p
invariant-loop-p l = (l.p ≤ length l.lines) × Carried (room_of (length l.buf)) l.tried

abbrev pub decreases-loop-p : goal.decreases-loop-p
decreases-loop-p l = length l.lines - l.p
