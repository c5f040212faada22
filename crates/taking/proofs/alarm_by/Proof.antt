-- `taking::alarm_by` meets its contract.
use mathlib.Core.Path.{ap, sym}
use borrow.Author.Rules.{rules}
use Rattle.taking.specs.Steps.{alarm_by}
use Rattle.taking.proofs.alarm_by.Statement.{statement}
use Rattle.taking.proofs.alarm_by.Tie as tie

returns : tie.Need-returns-in-Stop
unfolding alarm_by
returns c = ap alarm_by (sym c.in-Stop.is)

returns_2 : tie.Need-returns-in-On
unfolding alarm_by
returns_2 c = ap alarm_by (sym c.in-On.is)

returns_3 : tie.Need-returns-in-Call
unfolding alarm_by
returns_3 c = ap alarm_by (sym c.in-Call.is)

returns_4 : tie.Need-returns-in-Jump
unfolding alarm_by
returns_4 c = ap alarm_by (sym c.in-Jump.is)

returns_5 : tie.Need-returns-in-Return
unfolding alarm_by
returns_5 c = ap alarm_by (sym c.in-Return.is)

returns_6 : tie.Need-returns-in-End
unfolding alarm_by
returns_6 c = ap alarm_by (sym c.in-End.is)

pub alarm_by_spec : {M : Type 1} → statement M
alarm_by_spec =
    tie.close
    (tie.spec
    (λ c. search rules)
    (λ c. search rules)
    (λ c. search rules)
    (λ c. search rules)
    (λ c. search rules)
    (λ c. search rules)
    returns
    returns_2
    returns_3
    returns_4
    returns_5
    returns_6)
