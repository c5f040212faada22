-- `opening::own_of` meets its contract.
use mathlib.Core.Path.{sym, ap, ◌∙◌}
use borrow.Author.Rules.{rules}
use Rattle.opening.specs.Opened.{alone, own_in}
use Rattle.opening.proofs.own_of.Statement.{statement}
use Rattle.opening.proofs.own_of.Tie as tie

returns : tie.Need-returns-in-Nothing
unfolding own_in
returns c = let m = c in c.alone.ensures ∙ ap alone m.rapid.ensures ∙ ap own_in (sym m.in-Nothing.is)

returns_2 : tie.Need-returns-in-Nowhere
unfolding own_in
returns_2 c = let m = c in c.alone-in-Nowhere.ensures ∙ ap alone m.rapid-in-Nowhere.ensures ∙ ap own_in (sym m.in-Nowhere.is)

returns_3 : tie.Need-returns-in-Dwell
unfolding own_in
returns_3 c = c.alone-in-Dwell.ensures ∙ ap own_in (sym c.in-Dwell.is)

returns_4 : tie.Need-returns-in-Straight
unfolding own_in
returns_4 c = c.alone-in-Straight.ensures ∙ ap own_in (sym c.in-Straight.is)

returns_5 : tie.Need-returns-in-Round
unfolding own_in
returns_5 c = c.own_of_round.ensures ∙ ap own_in (sym c.in-Round.is)

returns_6 : tie.Need-returns-in-Cycle
unfolding own_in
returns_6 c = let m = c in c.alone-in-Cycle.ensures ∙ ap alone m.rapid-in-Cycle.ensures ∙ ap own_in (sym m.in-Cycle.is)

pub own_of_spec : {M : Type 1} → statement M
own_of_spec =
    tie.close
    (tie.spec
    (λ c. search rules)
    (λ c κs. search rules)
    (λ c κs. search rules)
    (λ c. search rules)
    (λ c κs. search rules)
    (λ c κs. search rules)
    (λ c. search rules)
    (λ c κs. search rules)
    (λ c. search rules)
    (λ c κs. search rules)
    (λ c. search rules)
    (λ c κs. search rules)
    (λ c. search rules)
    (λ c κs. search rules)
    (λ c κs. search rules)
    returns
    returns_2
    returns_3
    returns_4
    returns_5
    returns_6)
