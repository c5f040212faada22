-- `cyclewords::turned::words_of` meets its contract.
use mathlib.Core.Path.{refl}
use borrow.Author.Rules.{rules}
use Rattle.cyclewords.specs.Turned.{turning_of}
use Rattle.cyclewords.proofs.turned.words_of.Statement.{statement}
use Rattle.cyclewords.proofs.turned.words_of.Tie as tie

returns : tie.Need-returns
unfolding turning_of
returns c =
    let front = c in
    let s = front in
    let e = front.front_words-front.ensures in
    (refl, refl, λ i. record { pass = e.0 i; side = e.1 i; line = e.2 i; depths = s.args.c.depths; stage = c.stage_word-stage.ensures i })

pub words_of_spec : {M : Type 1} → statement M
words_of_spec =
    tie.close
    (tie.spec
    (λ c κs. search rules)
    (λ c κs. search rules)
    (λ c. search rules)
    (λ c. search rules)
    (λ c. search rules)
    (λ c. search rules)
    (λ c. search rules)
    (λ c. search rules)
    (λ c. search rules)
    (λ c. search rules)
    returns)
