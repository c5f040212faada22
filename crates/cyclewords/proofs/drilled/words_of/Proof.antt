-- `cyclewords::drilled::words_of` meets its contract.
use mathlib.Core.Path.{refl}
use borrow.Author.Rules.{rules}
use Rattle.cyclewords.specs.Drilled.{drilling_of}
use Rattle.cyclewords.proofs.drilled.words_of.Statement.{statement}
use Rattle.cyclewords.proofs.drilled.words_of.Tie as tie

returns : tie.Need-returns
unfolding drilling_of
returns c =
    let bore = c in
    let s = bore in
    let v = s.args.c in
    (refl, refl, λ i. record { bore = bore.bore_words-bore.ensures i; stage = c.stage_word-stage.ensures i; deep = v.deep; bite = v.bite; left = v.left })

pub words_of_spec : {M : Type 1} → statement M
words_of_spec =
    tie.close
    (tie.spec
    (λ c κs. search rules)
    (λ c κs. search rules)
    (λ c. search rules)
    (λ c. search rules)
    (λ c. search rules)
    (λ c. search rules)
    (λ c. search rules)
    (λ c. search rules)
    (λ c. search rules)
    (λ c. search rules)
    (λ c. search rules)
    (λ c. search rules)
    (λ c. search rules)
    returns)
