-- `requests::request_of` meets its contract.
use mathlib.Core.Path.{ap, ◌∙◌}
use Rattle.requests.specs.Request.{steered, flow_by, request_of}
use borrow.Author.Rules.{rules}
use Rattle.requests.proofs.request_of.Statement.{statement}
use Rattle.requests.proofs.request_of.Tie as tie

returns : tie.Need-returns
unfolding request_of
returns c =
    let l = c in
    let g = l in
    let f = g in
    c.steered.ensures ∙ (λ i. steered (g.g_in-code.ensures i) (l.code_in-l.ensures i) ((f.flow_by-flow.ensures ∙ ap flow_by f.m_in.ensures) i))

pub request_of_spec : {M : Type 1} → statement M
request_of_spec =
    tie.close
    (tie.spec (λ c κs. search rules) (λ c κs. search rules) (λ c κs. search rules) (λ c κs. search rules) (λ c κs. search rules) returns)
