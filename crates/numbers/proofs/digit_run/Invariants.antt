-- The digits of the whole run are those that `digits_of` makes from the place at + count on, with the value of `count` digits behind it.
use Rattle.std.proofs.Common.{◌≡◌, ◌^◌, ◌<◌, drop}
use Rattle.numbers.specs.Numbers.{digits_of}
use Rattle.numbers.proofs.Reading.{here}
use Rattle.numbers.proofs.digit_run.Given as goal

abbrev pub invariant-loop-count : goal.invariant-loop-count
invariant-loop-count l = (l.value < 10 ^ l.count) × (digits_of l.limit (drop l.at l.part) 0 0 ≡ here l.part l.at l.limit l.value l.count)
