-- The lines of the records from k on are still to be written, and none of those before it was longer than the longest.
use Rattle.std.proofs.Common.{◌+◌, ◌*◌, ◌-◌, ◌≤◌}
use Rattle.moves.specs.Reading.{row_at}
use Rattle.decimal.proofs.Writing.{Going}
use Rattle.listing.specs.Listing.{record_lines, longest_record_line}
use Rattle.listing.proofs.lines.put_records.Given as goal

abbrev pub invariant-loop-k : goal.invariant-loop-k
invariant-loop-k l =
    (l.next ≤ l.at + longest_record_line * l.k) × Going l.fn.out l.at (record_lines (row_at l.list 0 l.count)) l.out l.next (record_lines (row_at l.list l.k (l.count - l.k)))
