-- `stored::given::usual` meets its contract.
use mathlib.Core.Path.{refl}
use Rattle.stored.specs.Given.{usual}
use borrow.Author.Rules.{rules}
use Rattle.stored.proofs.given.usual.Statement.{statement}
use Rattle.stored.proofs.given.usual.Tie as tie

returns : tie.Need-returns
unfolding usual
returns c = refl

pub usual_spec : {M : Type 1} → statement M
usual_spec =
    tie.close
    (tie.spec
    (λ c. search rules)
    (λ c. search rules)
    (λ c. search rules)
    (λ c. search rules)
    (λ c. search rules)
    (λ c. search rules)
    (λ c. search rules)
    (λ c. search rules)
    (λ c. search rules)
    (λ c. search rules)
    (λ c. search rules)
    (λ c. search rules)
    (λ c. search rules)
    returns)
