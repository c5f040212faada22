-- `runlaid::put_ends` meets its contract.
use borrow.Author.Rules.{rules}
use Rattle.runlaid.proofs.Putting.{two_put}
use Rattle.runlaid.proofs.put_ends.Statement.{statement}
use Rattle.runlaid.proofs.put_ends.Tie as tie

returns : tie.Need-returns
returns c = two_put c.args.words.now c.args.end c.args.filled c.requires

pub put_ends_spec : {M : Type 1} → statement M
put_ends_spec =
    tie.close
    (tie.spec
    (λ c. search rules)
    (λ c. search rules)
    (λ c. search rules)
    returns)
