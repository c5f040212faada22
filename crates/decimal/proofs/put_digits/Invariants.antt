-- The digits from `place` on are written, and those of `rest` are left.
use Rattle.decimal.proofs.Numbers.{Back}
use Rattle.decimal.proofs.put_digits.Given as goal

abbrev pub invariant-loop-place : goal.invariant-loop-place
invariant-loop-place l = Back l.fn.out l.at l.n l.out l.place l.rest
