-- The entries from i on stand one higher too.
use Rattle.std.proofs.Common.{◌≡◌, ◌≤◌, length}
use Rattle.places.proofs.Shifts.{shifted}
use Rattle.places.proofs.insert.Given as goal

abbrev pub invariant-loop-i : goal.invariant-loop-i
invariant-loop-i l = (l.at ≤ l.i) × (l.i ≤ l.count) × (l.table ≡ shifted l.fn.table l.i l.count) × (length l.table ≡ length l.fn.table)
