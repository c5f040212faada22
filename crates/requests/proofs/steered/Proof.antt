-- `requests::steered` meets its contract.
use mathlib.Core.Path.{ap, ◌∙◌}
use Prim.Native.Nat.{◌/◌}
use Rattle.codes.proofs.Tables.{code_is}
use Rattle.requests.specs.declared.Request.TheVariants.{Call}
use Rattle.requests.specs.Request.{steered}
use Rattle.requests.proofs.Steering.{steers_is, steered_by, no_steering}
use borrow.Author.Rules.{rules}
use Rattle.requests.proofs.steered.Statement.{statement}
use Rattle.requests.proofs.steered.Tie as tie

returns : tie.Need-returns-in-Call
unfolding steered
returns c =
    let t = c in
    let m = t in
    let k = m in
    let a = k.args in
    ap (Call (a.l / 100)) c.times_of.ensures ∙ steered_by a.l a.other (code_is k.in-Of.is (steers_is m.in-Steers.is t.in-Call.is))

returns_2 : tie.Need-returns-in-Jump
unfolding steered
returns_2 c =
    let m = c in
    let k = m in
    let a = k.args in
    steered_by a.l a.other (code_is k.in-Of.is (steers_is m.in-Steers.is c.in-Jump.is))

returns_3 : tie.Need-returns-in_default
returns_3 c =
    let k = c in
    let a = k.args in
    no_steering _ _ a.l a.other c.in_default.in_default-own.keys2 ∙ steered_by a.l a.other k.in-Of.is

returns_4 : tie.Need-returns-in-Unknown
unfolding steered
returns_4 c = let a = c.args in steered_by a.l a.other c.in-Unknown.is

pub steered_spec : {M : Type 1} → statement M
steered_spec =
    tie.close
    (tie.spec
    (λ c. search rules)
    (λ c. search rules)
    (λ c. search rules)
    (λ c κs. search rules)
    (λ c. search rules)
    (λ c. search rules)
    returns
    returns_2
    returns_3
    returns_4)
