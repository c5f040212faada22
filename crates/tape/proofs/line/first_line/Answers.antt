-- What `position` finds is where the scan for the first `%` or `O` comes to.
use Rattle.std.proofs.Common.{◌≡◌, ◌∙◌, arith, rules, tests}
use Rattle.std.proofs.lemmas.Iterator.{YieldsList-from_slice}
use Rattle.std.proofs.lemmas.Iterator.Search.{position_from_yields_List}
use Rattle.tape.specs.Lines.{seek, opens_tape}
use Rattle.tape.proofs.Scanning.{sought, seek_within}
use Rattle.tape.proofs.line.first_line.Goals as goal

pub returns : goal.returns
unfolding opens_tape
returns c =
    let s = c.args.tape.now in
    let is : c.unwrap_or.result ≡ seek opens_tape s =
    c.unwrap_or.ensures ∙ sought opens_tape s c.position.result (position_from_yields_List opens_tape _ _ _ c.position.ensures.ran (YieldsList-from_slice s cc) (λ x b q k. search (rules, tests))) in
    (omega (arith, is), omega (arith, is, seek_within opens_tape s))
