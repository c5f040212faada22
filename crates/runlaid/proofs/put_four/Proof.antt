-- `runlaid::put_four` meets its contract.
use native.Mathlib.Omega.{arith}
use lib.ListN.{length-set}
use borrow.Author.Rules.{rules}
use Rattle.runlaid.proofs.Putting.{four_put}
use Rattle.runlaid.proofs.put_four.Statement.{statement}
use Rattle.runlaid.proofs.put_four.Tie as tie

returns : tie.Need-returns
returns c = four_put c.args.words.now c.args.at c.args.four (search rules) (search rules)

pub put_four_spec : {M : Type 1} → statement M
put_four_spec =
    tie.close
    (tie.spec
    (λ c. search rules)
    (λ c. search rules)
    (λ c. search rules)
    (λ c. search rules)
    (λ c. search rules)
    (λ c. search rules)
    (λ c. simp length-set (omega arith))
    (λ c. search rules)
    (λ c. search rules)
    (λ c. search rules)
    (λ c. simp length-set (omega arith))
    (λ c. search rules)
    (λ c. search rules)
    (λ c. search rules)
    (λ c. simp length-set (omega arith))
    (λ c. search rules)
    returns)
