-- `numbers::read_number` meets its contract.
use borrow.Author.Rules.{rules}
use Rattle.numbers.specs.Numbers.{number_of}
use Rattle.numbers.proofs.read_number.Statement.{statement}
use Rattle.numbers.proofs.read_number.Tie as tie

returns : tie.Need-returns-in-Path
unfolding number_of
returns c = rw c.in-Path.is c.read_path.ensures

returns_2 : tie.Need-returns-in-TwoDigits
unfolding number_of
returns_2 c = rw c.in-TwoDigits.is c.read_digits.ensures

returns_3 : tie.Need-returns-in-FourDigits
unfolding number_of
returns_3 c = rw c.in-FourDigits.is c.read_digits-in-FourDigits.ensures

returns_4 : tie.Need-returns-in-FiveDigits
returns_4 c = rw c.in-FiveDigits.is c.read_five_digits.ensures

returns_5 : tie.Need-returns-in-DNumber
unfolding number_of
returns_5 c = rw c.in-DNumber.is c.read_digits-in-DNumber.ensures

pub read_number_spec : {M : Type 1} → statement M
read_number_spec =
    tie.close
    (tie.spec
    (λ c. search rules)
    (λ c κs. search rules)
    (λ c. search rules)
    (λ c κs. search rules)
    (λ c. search rules)
    (λ c κs. search rules)
    (λ c. search rules)
    (λ c κs. search rules)
    (λ c. search rules)
    (λ c κs. search rules)
    returns
    returns_2
    returns_3
    returns_4
    returns_5)
