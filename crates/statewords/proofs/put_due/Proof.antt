-- `statewords::put_due` meets its contract.
use borrow.Author.Rules.{rules}
use Rattle.statewords.proofs.Puts.{due_is_put}
use Rattle.statewords.proofs.put_due.Statement.{statement}
use Rattle.statewords.proofs.put_due.Tie as tie

returns : tie.Need-returns
returns c =
    let put = c in
    let made = put in
    let s = made in
    due_is_put s.args.state.now made.due_words.result s.args.deed s.args.due s.requires (search rules) made.due_words.ensures put.put_words.ensures

pub put_due_spec : {M : Type 1} → statement M
put_due_spec =
    tie.close
    (tie.spec (λ c κs. search rules) (λ c. search rules) (λ c κs. search rules) (λ c. search rules) returns)
