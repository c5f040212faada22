-- `block::faulty_rest` meets its contract.
use mathlib.Core.Bool.{true}
use Rattle.block.specs.Words.{faulty_rest}
use borrow.Author.Rules.{rules}
use Rattle.block.proofs.faulty_rest.Statement.{statement}
use Rattle.block.proofs.faulty_rest.Tie as tie

no_words_requires : tie.Need-no_words-requires
no_words_requires c κs = search rules

returns : tie.Need-returns
unfolding faulty_rest
returns c = λ i. record { block = c.no_words.ensures i; faulty = true }

pub faulty_rest_spec : {M : Type 1} → statement M
faulty_rest_spec = tie.close (tie.spec no_words_requires returns)
