-- `handwords::hand_of` meets its contract.
use mathlib.Core.Path.{refl, sym, subst}
use borrow.Author.Rules.{rules}
use Rattle.handwords.specs.Due.{Hands}
use Rattle.handwords.proofs.hand_of.Statement.{statement}
use Rattle.handwords.proofs.hand_of.Tie as tie

returns : tie.Need-returns-in-Turning
returns c = subst (Hands 5) (sym c.in-Turning.is) (record { some = refl; back = λ d. refl })

returns_2 : tie.Need-returns-in-Threading
returns_2 c = subst (Hands 5) (sym c.in-Threading.is) (record { some = refl; back = λ d. refl })

returns_3 : tie.Need-returns-in-Grooving
returns_3 c = subst (Hands 5) (sym c.in-Grooving.is) (record { some = refl; back = λ d. refl })

returns_4 : tie.Need-returns-in-Drilling
returns_4 c = subst (Hands 5) (sym c.in-Drilling.is) (record { some = refl; back = λ d. refl })

returns_5 : tie.Need-returns-in-Single
returns_5 c = subst (Hands c.hand_at.result) (sym c.in-Single.is) c.hand_at.ensures

pub hand_of_spec : {M : Type 1} → statement M
hand_of_spec =
    tie.close
    (tie.spec
    (λ c. search rules)
    (λ c. search rules)
    (λ c. search rules)
    (λ c. search rules)
    (λ c. search rules)
    (λ c κs. search rules)
    returns
    returns_2
    returns_3
    returns_4
    returns_5)
