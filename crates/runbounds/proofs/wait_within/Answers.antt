-- What `all` answers is what is told of all that may wait.
use Rattle.std.proofs.Common.{◌≡◌, ◌∙◌, sym, length, arith, rules, tests}
use Rattle.std.specs.List.{list_all}
use Rattle.std.proofs.lemmas.Iterator.{YieldsList-from_slice}
use Rattle.std.proofs.lemmas.Iterator.Search.{all_from_yields_List}
use Rattle.ahead.specs.Ahead.{most_calls}
use Rattle.runbounds.proofs.Keeping.{waits, all_wait}
use Rattle.runbounds.proofs.wait_within.Goals as goal

pub returns : goal.returns
returns c =
    let a = c.args in
    let is : c.all.result ≡ list_all (waits a.end) a.waiting =
    all_from_yields_List (waits a.end) _ _ _ c.all.ensures.ran (YieldsList-from_slice a.waiting cc) (λ x b q k. search (rules, tests)) in
    let ten : length a.waiting ≡ most_calls = search rules in
    let t = all_wait a.end a.waiting in
    record {
      sound = λ e. (ten, λ k h. t.0 (sym is ∙ e) k (omega (arith, ten, h)));
      all = λ h. is ∙ t.1 (λ k l. h.1 k (omega (arith, ten, l)));
    }
