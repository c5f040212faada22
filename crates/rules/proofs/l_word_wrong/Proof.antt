-- `rules::l_word_wrong` meets its contract.
use Rattle.rules.specs.Rules.{l_word_wrong}
use mathlib.Core.Path.{ap}
use mathlib.Core.Bool.{not}
use Rattle.rules.proofs.Ruling.{both, either}
use borrow.Author.Rules.{rules}
use Rattle.rules.proofs.l_word_wrong.Statement.{statement}
use Rattle.rules.proofs.l_word_wrong.Tie as tie

has_requires : tie.Need-has-label-requires
has_requires c κs = search rules

calls_or_jumps_requires : tie.Need-calls_or_jumps-calls-requires
calls_or_jumps_requires c κs = search rules

returns : tie.Need-returns
unfolding l_word_wrong
returns c =
    let label = c.has-label.ensures in
    let calls = c.calls_or_jumps-calls.ensures in
    either (both calls (ap not label)) (both (ap not calls) label)

pub l_word_wrong_spec : {M : Type 1} → statement M
l_word_wrong_spec = tie.close (tie.spec has_requires calls_or_jumps_requires returns)
