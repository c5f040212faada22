-- `fields::four_at` meets its contract.
use borrow.Author.Rules.{rules}
use Rattle.fields.proofs.Taking.{four_taken}
use Rattle.fields.proofs.four_at.Statement.{statement}
use Rattle.fields.proofs.four_at.Tie as tie

returns : tie.Need-returns
returns c = let s = c in four_taken s.args.part.now s.args.at s.requires

pub four_at_spec : {M : Type 1} → statement M
four_at_spec =
    tie.close
    (tie.spec
    (λ c. search rules)
    (λ c. search rules)
    (λ c. search rules)
    (λ c. search rules)
    (λ c. search rules)
    (λ c. search rules)
    (λ c. search rules)
    returns)
