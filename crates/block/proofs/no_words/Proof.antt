-- `block::no_words` meets its contract.
use mathlib.Core.Path.{refl}
use Rattle.block.specs.Words.{no_words}
use Rattle.block.proofs.no_words.Statement.{statement}
use Rattle.block.proofs.no_words.Tie as tie

returns : tie.Need-returns
unfolding no_words
returns c = refl

pub no_words_spec : {M : Type 1} → statement M
no_words_spec = tie.close (tie.spec returns)
