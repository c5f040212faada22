-- What the fold finds over the slots' places.
use Rattle.std.proofs.Common.{◌-◌, ◌∙◌, false, take, drop, arith, rules, tests}
use Rattle.std.proofs.lemmas.Iterator.{YieldsList-from_slice}
use Rattle.std.proofs.lemmas.Iterator.Consumers.{fold_from_yields_List}
use Rattle.rules.proofs.Ruling.{or_some, some_folded}
use Rattle.rules.proofs.any.Goals as goal

pub returns : goal.returns
returns c =
    let a = c.args in
    let places = take (a.to - a.from) (drop a.from a.b.place) in
    fold_from_yields_List _ or_some _ _ c.fold.ensures.ran (YieldsList-from_slice places cc) (λ f x b q k. search (rules, tests))
    ∙ some_folded a.b (a.to - a.from) a.from (omega arith) false
