-- `acts::returns_by` meets its contract.
use mathlib.Core.Path.{◌≡◌, sym, ap, ◌∙◌}
use Rattle.codes.specs.declared.Code.{Code}
use Rattle.acts.specs.Acting.{returns_by}
use Rattle.codes.proofs.Tables.{code_is}
use Rattle.acts.proofs.Saying.{flows_is, no_return}
use borrow.Author.Rules.{rules}
use Rattle.acts.proofs.returns_by.Statement.{statement}
use Rattle.acts.proofs.returns_by.Tie as tie

-- a code that was tested for
by : {k l : Code} → k ≡ l → returns_by l ≡ returns_by k
by e = ap returns_by (sym e)

returns : tie.Need-returns-in-Stop
unfolding returns_by
returns c =
    let m = c in
    by (code_is m.in-Of.is (flows_is m.in-Flows.is c.in-Stop.is))

returns_2 : tie.Need-returns-in-Return
unfolding returns_by
returns_2 c =
    let m = c in
    by (code_is m.in-Of.is (flows_is m.in-Flows.is c.in-Return.is))

returns_3 : tie.Need-returns-in-End
unfolding returns_by
returns_3 c =
    let m = c in
    by (code_is m.in-Of.is (flows_is m.in-Flows.is c.in-End.is))

returns_4 : tie.Need-returns-in_default
returns_4 c = no_return _ _ c.in_default.in_default-own.keys2 ∙ by c.in-Of.is

returns_5 : tie.Need-returns-in-Unknown
unfolding returns_by
returns_5 c = by c.in-Unknown.is

pub returns_by_spec : {M : Type 1} → statement M
returns_by_spec =
    tie.close
    (tie.spec
    (λ c. search rules)
    (λ c. search rules)
    (λ c. search rules)
    (λ c. search rules)
    (λ c. search rules)
    (λ c. search rules)
    returns
    returns_2
    returns_3
    returns_4
    returns_5)
