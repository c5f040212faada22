-- `wording::words_of` meets its contract.
use mathlib.Core.Path.{ap, ◌∙◌}
use borrow.Author.Rules.{rules}
use borrow.Author.Tests.{lt-ltb}
use Rattle.block.specs.declared.Rest.{Rest}
use Rattle.taking.specs.Steps.{block_in}
use Rattle.taking.proofs.Lines.{words_behind}
use Rattle.wording.proofs.words_of.Statement.{statement}
use Rattle.wording.proofs.words_of.Tie as tie

no_words_requires : tie.Need-no_words-requires
no_words_requires c κs = search rules

returns : tie.Need-returns-then-line-gt-LONGEST_LINE
unfolding block_in
returns c = c.no_words.ensures ∙ rw (lt-ltb _ _ c.if-line-gt-LONGEST_LINE.true)

read_rest_requires : tie.Need-read_rest-rest-requires
read_rest_requires c κs = (c.requires.within, c.if-line-gt-LONGEST_LINE.false)

returns_2 : tie.Need-returns
returns_2 c =
    let e = c in
    let s = e in
    ap (λ (x : Rest). x.block) c.read_rest-rest.ensures ∙ words_behind s.args.line.now s.args.behind s.requires e.if-line-gt-LONGEST_LINE.false

pub words_of_spec : {M : Type 1} → statement M
words_of_spec = tie.close (tie.spec no_words_requires returns read_rest_requires returns_2)
