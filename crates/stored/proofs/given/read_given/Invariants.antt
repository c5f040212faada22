-- What is left is the end of the text.
use Rattle.std.proofs.Common.{length}
use Rattle.stored.specs.Texts.{EndOf}
use Rattle.stored.proofs.given.read_given.Given as goal

abbrev pub invariant-loop-line : goal.invariant-loop-line
invariant-loop-line l = EndOf l.text l.rest

abbrev pub decreases-loop-line : goal.decreases-loop-line
decreases-loop-line l = length l.rest
