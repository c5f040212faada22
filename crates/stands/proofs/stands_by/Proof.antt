-- `stands::stands_by` meets its contract.
use mathlib.Core.Path.{◌≡◌, sym, ap, ◌∙◌}
use Rattle.codes.specs.declared.Code.{Code}
use Rattle.stands.specs.Stands.{stands_by}
use Rattle.codes.proofs.Tables.{code_is}
use Rattle.stands.proofs.Asking.{others_ask}
use borrow.Author.Rules.{rules}
use Rattle.stands.proofs.stands_by.Statement.{statement}
use Rattle.stands.proofs.stands_by.Tie as tie

-- a code that was tested for
by : {k l : Code} → k ≡ l → stands_by l ≡ stands_by k
by e = ap stands_by (sym e)

returns : tie.Need-returns-in-Moves
unfolding stands_by
returns c =
    let m = c in
    c.stands_with.ensures ∙ by (code_is m.in-Of.is m.in-Moves.is)

returns_2 : tie.Need-returns-in_default
returns_2 c =
    let k = c in
    c.stands_freely.ensures ∙ others_ask _ _ c.in_default.in_default-own.keys2 ∙ by k.in-Of.is

returns_3 : tie.Need-returns-in-Unknown
unfolding stands_by
returns_3 c = c.stands_freely-in-Unknown.ensures ∙ by c.in-Unknown.is

pub stands_by_spec : {M : Type 1} → statement M
stands_by_spec =
    tie.close
    (tie.spec
    (λ c. search rules)
    (λ c. search rules)
    (λ c κs. search rules)
    (λ c κs. search rules)
    (λ c. search rules)
    (λ c κs. search rules)
    returns
    returns_2
    returns_3)
