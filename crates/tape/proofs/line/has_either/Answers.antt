-- What the fold says of the stretch, said of the bytes.
use Rattle.std.proofs.Common.{◌+◌, ◌∙◌, sym, rules, tests}
use Rattle.std.specs.List.{between}
use Rattle.std.proofs.lemmas.Iterator.{YieldsList-from_slice}
use Rattle.std.proofs.lemmas.Iterator.Consumers.{fold_from_yields_List}
use Rattle.tape.specs.Lines.{stretch}
use Rattle.tape.proofs.Scanning.{or_either, neither_of}
use Rattle.tape.proofs.line.has_either.Goals as goal

pub returns : goal.returns
returns c e =
    let a = c.args in
    neither_of a.one a.other a.bytes.now a.from stretch c.requires (sym (fold_from_yields_List _ (or_either a.one a.other) _ _ c.fold.ensures.ran (YieldsList-from_slice (between a.from (a.from + stretch) a.bytes.now) cc) (λ f x b q k. search (rules, tests))) ∙ e)
