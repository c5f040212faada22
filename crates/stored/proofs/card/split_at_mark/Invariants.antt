-- What is left is the end of the page.
use Rattle.std.proofs.Common.{length}
use Rattle.stored.specs.Texts.{EndOf}
use Rattle.stored.proofs.card.split_at_mark.Given as goal

abbrev pub invariant-loop-rest : goal.invariant-loop-rest
invariant-loop-rest l = EndOf l.page l.rest

abbrev pub decreases-loop-rest : goal.decreases-loop-rest
decreases-loop-rest l = length l.rest
