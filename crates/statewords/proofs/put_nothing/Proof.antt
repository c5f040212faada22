-- `statewords::put_nothing` meets its contract.
use borrow.Author.Rules.{rules}
use Rattle.statewords.proofs.Puts.{nothing_put}
use Rattle.statewords.proofs.put_nothing.Statement.{statement}
use Rattle.statewords.proofs.put_nothing.Tie as tie

returns : tie.Need-returns
returns c =
    let put = c in
    let made = put in
    let s = made in
    nothing_put s.args.state.now made.empty_words.result s.requires (search rules) made.empty_words.ensures put.put_words.ensures

pub put_nothing_spec : {M : Type 1} → statement M
put_nothing_spec =
    tie.close
    (tie.spec
    (λ c κs. search rules)
    (λ c. search rules)
    (λ c κs. search rules)
    (λ c. search rules)
    returns)
