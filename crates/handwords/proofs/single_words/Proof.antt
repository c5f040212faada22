-- `handwords::single_words` meets its contract.
use mathlib.Core.Path.{refl}
use borrow.Author.Rules.{rules}
use Rattle.handwords.proofs.Slots.{slot_single}
use Rattle.handwords.proofs.single_words.Statement.{statement}
use Rattle.handwords.proofs.single_words.Tie as tie

returns : tie.Need-returns
returns c = (refl, slot_single _ c.stage_word-tag.ensures.1 c.stage_word-tag.ensures.0)

pub single_words_spec : {M : Type 1} → statement M
single_words_spec = tie.close (tie.spec (λ c κs. search rules) returns)
