-- `cyclewords::cutting::words_of` meets its contract.
use mathlib.Core.Path.{sym, ap, ◌∙◌}
use borrow.Author.Rules.{rules}
use Rattle.cuts.specs.declared.Cuts.TheVariants.{ByDepth, ByNumber}
use Rattle.cyclewords.proofs.cutting.words_of.Statement.{statement}
use Rattle.cyclewords.proofs.cutting.words_of.Tie as tie

returns : tie.Need-returns-in-Even
returns c = c.even_words.ensures ∙ sym c.in-Even.is

returns_2 : tie.Need-returns-in-ByDepth
returns_2 c = rw c.falling_words.ensures.0 (ap ByDepth c.falling_words.ensures.1) ∙ sym c.in-ByDepth.is

returns_3 : tie.Need-returns-in-ByNumber
returns_3 c = rw c.falling_words-in-ByNumber.ensures.0 (ap ByNumber c.falling_words-in-ByNumber.ensures.1) ∙ sym c.in-ByNumber.is

pub words_of_spec : {M : Type 1} → statement M
words_of_spec =
    tie.close
    (tie.spec
    (λ c. search rules)
    (λ c κs. search rules)
    (λ c. search rules)
    (λ c κs. search rules)
    (λ c. search rules)
    (λ c κs. search rules)
    returns
    returns_2
    returns_3)
