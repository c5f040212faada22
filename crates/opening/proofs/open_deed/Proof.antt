-- `opening::open_deed` meets its contract.
use mathlib.Core.Path.{refl, subst}
use borrow.Author.Rules.{rules}
use Rattle.cycles.specs.Cycle as cycle
use Rattle.asking.specs.Judge.{doing}
use Rattle.deeds.specs.Known.{Right, Known}
use Rattle.opening.specs.Opened.{alone, own_of_round, own_in}
use Rattle.writing.specs.Writes.{one_if}
use Rattle.opening.proofs.Opening.{none_due, own_due, cycle_due}
use Rattle.opening.proofs.open_deed.Statement.{statement}
use Rattle.opening.proofs.open_deed.Tie as tie

open_cycle_requires : tie.Need-open_cycle-requires
open_cycle_requires c κs =
    let is = c.in-Cycle.is in
    let h = c.requires in
    (subst Right is h.0, subst Known is h.1)

returns : tie.Need-returns-in-Nothing
unfolding doing
returns c = none_due c.in-Nothing.is refl c.stage_behind.ensures

returns_2 : tie.Need-returns-in-Nowhere
unfolding doing
returns_2 c = none_due c.in-Nowhere.is refl c.stage_behind-in-Nowhere.ensures

returns_3 : tie.Need-returns-in-Dwell
unfolding doing alone own_in one_if
returns_3 c = own_due c.in-Dwell.is refl

returns_4 : tie.Need-returns-in-Straight
unfolding doing alone own_in one_if
returns_4 c = own_due c.in-Straight.is refl

returns_5 : tie.Need-returns-in-Round
unfolding doing own_of_round own_in one_if
returns_5 c = own_due c.in-Round.is refl

returns_6 : tie.Need-returns-in-Cycle
unfolding doing
returns_6 c = let m = c in cycle_due m.in-Cycle.is (cycle.records m.in-Cycle.c) refl c.open_cycle.ensures

pub open_deed_spec : {M : Type 1} → statement M
open_deed_spec =
    tie.close
    (tie.spec
    (λ c. search rules)
    (λ c κs. search rules)
    (λ c. search rules)
    (λ c κs. search rules)
    (λ c. search rules)
    (λ c. search rules)
    (λ c. search rules)
    (λ c. search rules)
    open_cycle_requires
    returns
    returns_2
    returns_3
    returns_4
    returns_5
    returns_6)
