-- `numbers::read_five_digits` meets its contract.
use borrow.Author.Rules.{rules}
use Rattle.numbers.specs.Numbers.{number_of}
use Rattle.numbers.proofs.read_five_digits.Statement.{statement}
use Rattle.numbers.proofs.read_five_digits.Tie as tie

returns : tie.Need-returns
unfolding number_of
returns c = c.read_digits.ensures

pub read_five_digits_spec : {M : Type 1} → statement M
read_five_digits_spec = tie.close (tie.spec (λ c κs. search rules) returns)
