-- `statewords::put_hand` meets its contract.
use borrow.Author.Rules.{rules}
use Rattle.statewords.proofs.Puts.{hand_put}
use Rattle.statewords.proofs.put_hand.Statement.{statement}
use Rattle.statewords.proofs.put_hand.Tie as tie

returns : tie.Need-returns
returns c =
    let due = c in
    let put = due in
    let made = put in
    let s = made in
    hand_put s.args.state.now made.plan_words.result s.args.plan s.args.due s.args.origin s.requires (search rules) made.plan_words.ensures put.put_words.ensures due.put_due.ensures

pub put_hand_spec : {M : Type 1} → statement M
put_hand_spec =
    tie.close
    (tie.spec
    (λ c κs. search rules)
    (λ c. search rules)
    (λ c κs. search rules)
    (λ c κs. search rules)
    (λ c. search rules)
    returns)
