-- `handwords::hand_at` meets its contract.
use mathlib.Core.Path.{refl, sym, subst}
use borrow.Author.Rules.{rules}
use Rattle.stages.specs.declared.Stage.{Stage}
use Rattle.stages.specs.declared.Due.TheVariants.{Single}
use Rattle.handwords.specs.Due.{Hands}
use Rattle.handwords.proofs.hand_at.Statement.{statement}
use Rattle.handwords.proofs.hand_at.Tie as tie

returns : tie.Need-returns-in-Speed
returns c = subst (λ (k : Stage). Hands 1 (Single k)) (sym c.in-Speed.is) (record { some = refl; back = λ d. refl })

returns_2 : tie.Need-returns-in-Tool
returns_2 c = subst (λ (k : Stage). Hands 2 (Single k)) (sym c.in-Tool.is) (record { some = refl; back = λ d. refl })

returns_3 : tie.Need-returns-in-Spindle
returns_3 c = subst (λ (k : Stage). Hands 3 (Single k)) (sym c.in-Spindle.is) (record { some = refl; back = λ d. refl })

returns_4 : tie.Need-returns-in-Coolant
returns_4 c = subst (λ (k : Stage). Hands 4 (Single k)) (sym c.in-Coolant.is) (record { some = refl; back = λ d. refl })

returns_5 : tie.Need-returns-in-Deed
returns_5 c = subst (λ (k : Stage). Hands 5 (Single k)) (sym c.in-Deed.is) (record { some = refl; back = λ d. refl })

returns_6 : tie.Need-returns-in-Centre
returns_6 c = subst (λ (k : Stage). Hands 5 (Single k)) (sym c.in-Centre.is) (record { some = refl; back = λ d. refl })

returns_7 : tie.Need-returns-in-Stop
returns_7 c = subst (λ (k : Stage). Hands 5 (Single k)) (sym c.in-Stop.is) (record { some = refl; back = λ d. refl })

returns_8 : tie.Need-returns-in-Over
returns_8 c = subst (λ (k : Stage). Hands 5 (Single k)) (sym c.in-Over.is) (record { some = refl; back = λ d. refl })

pub hand_at_spec : {M : Type 1} → statement M
hand_at_spec =
    tie.close
    (tie.spec
    (λ c. search rules)
    (λ c. search rules)
    (λ c. search rules)
    (λ c. search rules)
    (λ c. search rules)
    (λ c. search rules)
    (λ c. search rules)
    (λ c. search rules)
    returns
    returns_2
    returns_3
    returns_4
    returns_5
    returns_6
    returns_7
    returns_8)
