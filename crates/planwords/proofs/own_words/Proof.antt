-- `planwords::own_words` meets its contract.
use borrow.Author.Rules.{rules}
use Rattle.planwords.proofs.own_words.Statement.{statement}
use Rattle.planwords.proofs.own_words.Tie as tie

returns : tie.Need-returns
returns c =
    let centre = c in
    let goes = centre in
    let s = goes in
    λ i. record { goes = goes.record_words-goes.ensures i; centre = centre.record_words-centre.ensures i; has_centre = c.flag_word-has_centre.ensures i }

pub own_words_spec : {M : Type 1} → statement M
own_words_spec =
    tie.close
    (tie.spec
    (λ c κs. search rules)
    (λ c κs. search rules)
    (λ c κs. search rules)
    (λ c. search rules)
    (λ c. search rules)
    (λ c. search rules)
    (λ c. search rules)
    (λ c. search rules)
    (λ c. search rules)
    (λ c. search rules)
    (λ c. search rules)
    (λ c. search rules)
    (λ c. search rules)
    returns)
