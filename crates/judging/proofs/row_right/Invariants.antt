-- What is asked of all records is what is still to be asked from record k on, whose first byte stands at `first`.
use Rattle.std.proofs.Common.{◌≡◌, ◌-◌, ◌≤◌, false, drop}
use Rattle.moves.specs.Form.{header_size}
use Rattle.lawful.specs.Versions.{size_in, start_in}
use Rattle.judging.proofs.Judges.{asked, asked_from}
use Rattle.judging.proofs.row_right.Given as goal

abbrev pub invariant-loop-k : goal.invariant-loop-k
invariant-loop-k l = (l.k ≤ l.count) × (l.first ≡ start_in l.fn.v l.k) × (asked (size_in l.fn.v) false l.count (drop header_size l.list) ≡ asked_from (size_in l.fn.v) l.list l.count l.due l.k l.first)

abbrev pub decreases-loop-k : goal.decreases-loop-k
decreases-loop-k l = l.count - l.k
