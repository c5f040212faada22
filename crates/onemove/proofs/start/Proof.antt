-- `onemove::start` meets its contract.
use borrow.Author.Rules.{rules}
use Rattle.runbounds.proofs.Keeping.{kept_small}
use Rattle.onemove.proofs.Starting.{not_started, started}
use Rattle.onemove.proofs.start.Statement.{statement}
use Rattle.onemove.proofs.start.Tie as tie

returns : tie.Need-returns-then-state-ne-STATE_WORDS
returns c = let a = c.args in not_started a.tape.now a.table.now a.settings.now a.places.now a.state.now c.if-state-ne-STATE_WORDS.true

put_run_requires : tie.Need-put_run-requires
put_run_requires c κs = let k = c in (search rules, kept_small k.begun-going.ensures.0.kept)

returns_2 : tie.Need-returns
returns_2 c =
    let s = c in
    let a = s.args in
    let k = c.begun-going in
    let u = c.put_run in
    let p = c.put_nothing in
    started a.tape.now a.table.now a.settings.now a.places.now a.state.now c.if-state-ne-STATE_WORDS.false k.ensures.0 k.ensures.1 u.new.state u.ensures.0 p.ensures

pub start_spec : {M : Type 1} → statement M
start_spec = tie.close (tie.spec returns (λ c κs. search rules) put_run_requires (λ c κs. search rules) (λ c. search rules) (λ c. search rules) returns_2)
