-- The first k of them are laid.
use Rattle.runlaid.proofs.Putting.{LaidTo}
use Rattle.runlaid.proofs.put_waiting.Given as goal

abbrev pub invariant-loop-k : goal.invariant-loop-k
invariant-loop-k l = LaidTo l.fn.words l.waiting l.k l.words
