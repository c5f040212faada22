-- What `any` answers over the ten indexes.
use Rattle.std.proofs.Common.{refl, rules, tests}
use Rattle.std.proofs.lemmas.Iterator.{YieldsList-from_range}
use Rattle.std.proofs.lemmas.Iterator.Search.{any_from_yields_List}
use Rattle.block.specs.Slots.{has, any_of}
use Rattle.rules.specs.Rules.{is_foreign, d_word_wrong}
use Rattle.rules.proofs.d_word_wrong.Goals as goal

pub returns : goal.returns
unfolding d_word_wrong any_of is_foreign has
returns c =
    any_from_yields_List (λ i. is_foreign c.args.takes c.args.b i) _ _ _ c.any.ensures.ran (YieldsList-from_range 0 10 10 (cc) refl) (λ x b q k. search (rules, tests))
