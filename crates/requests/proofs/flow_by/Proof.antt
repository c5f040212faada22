-- `requests::flow_by` meets its contract.
use mathlib.Core.Path.{◌∙◌}
use Rattle.codes.proofs.Tables.{code_is}
use Rattle.acts.proofs.Saying.{flows_is}
use Rattle.requests.specs.Request.{flow_by}
use Rattle.requests.proofs.Steering.{flow_by_lem, no_flow}
use borrow.Author.Rules.{rules}
use Rattle.requests.proofs.flow_by.Statement.{statement}
use Rattle.requests.proofs.flow_by.Tie as tie

returns : tie.Need-returns-in-Stop
unfolding flow_by
returns c =
    let m = c in
    flow_by_lem (code_is m.in-Of.is (flows_is m.in-Flows.is c.in-Stop.is))

returns_2 : tie.Need-returns-in-Return
unfolding flow_by
returns_2 c =
    let m = c in
    flow_by_lem (code_is m.in-Of.is (flows_is m.in-Flows.is c.in-Return.is))

returns_3 : tie.Need-returns-in-End
unfolding flow_by
returns_3 c =
    let m = c in
    flow_by_lem (code_is m.in-Of.is (flows_is m.in-Flows.is c.in-End.is))

returns_4 : tie.Need-returns-in_default
returns_4 c = no_flow _ _ c.in_default.in_default-own.keys2 ∙ flow_by_lem c.in-Of.is

returns_5 : tie.Need-returns-in-Unknown
unfolding flow_by
returns_5 c = flow_by_lem c.in-Unknown.is

pub flow_by_spec : {M : Type 1} → statement M
flow_by_spec =
    tie.close
    (tie.spec
    (λ c. search rules)
    (λ c. search rules)
    (λ c. search rules)
    (λ c. search rules)
    (λ c. search rules)
    (λ c. search rules)
    returns
    returns_2
    returns_3
    returns_4
    returns_5)
