-- `addresses::number_word` meets its contract.
-- The word by the number that was read.
use mathlib.Core.Path.{◌≡◌}
use borrow.Author.Rules.{rules}
use mir.Syntax.{w32}
use mir.Val.{to_z, of_z}
use Rattle.addresses.specs.Words.{number_word}
use Rattle.addresses.proofs.number_word.Statement.{statement}
use Rattle.addresses.proofs.number_word.Tie as tie

returns : tie.Need-returns-in-Bad
unfolding number_word
returns c = rw (← c.read_number-number.ensures, c.in-Bad.is)

returns_2 : tie.Need-returns-in-Value
unfolding number_word
returns_2 c =
    let e : to_z w32 (of_z w32 c.in-Value.value) ≡ c.in-Value.value = search rules in
    rw (e, ← c.read_number-number.ensures, c.in-Value.is)

pub number_word_spec : {M : Type 1} → statement M
number_word_spec =
    tie.close
    (tie.spec
    (λ c. search rules)
    (λ c. search rules)
    (λ c. search rules)
    (λ c κs. search rules)
    (λ c. search rules)
    (λ c. search rules)
    returns
    returns_2)
