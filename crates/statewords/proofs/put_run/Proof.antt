-- `statewords::put_run` meets its contract.
use borrow.Author.Rules.{rules}
use Rattle.statewords.proofs.Puts.{run_put}
use Rattle.statewords.proofs.put_run.Statement.{statement}
use Rattle.statewords.proofs.put_run.Tie as tie

returns : tie.Need-returns
returns c =
    let put = c.put_going in
    let s = c in
    let met = run_put s.args.state.now put.new.words s.args.g s.requires.0 put.ensures.0 put.ensures.1 in
    (met.0, (met.1, met.2))

pub put_run_spec : {M : Type 1} → statement M
put_run_spec =
    tie.close
    (tie.spec
    (λ c. search rules)
    (λ c. search rules)
    (λ c. search rules)
    (λ c κs. search rules)
    (λ c. search rules)
    returns)
