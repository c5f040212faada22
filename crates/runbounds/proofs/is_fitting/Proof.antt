-- `runbounds::is_fitting` meets its contract.
use mathlib.Core.Path.{ap, ◌∙◌}
use borrow.Author.Rules.{rules}
use Rattle.telling.proofs.Tells.{tells_yes, tells_of}
use Rattle.runwords.specs.of_paused.declared.Phase.TheVariants.{Over}
use Rattle.runwords.specs.of_paused.Kept.{Answers}
use Rattle.runbounds.proofs.Keeping.{tells_complete, tells_alarm}
use Rattle.runbounds.proofs.is_fitting.Statement.{statement}
use Rattle.runbounds.proofs.is_fitting.Tie as tie

returns : tie.Need-returns-in-Running
returns c = tells_of Answers c.in-Running.is (tells_yes tt)

returns_2 : tie.Need-returns-in-Complete
returns_2 c =
    let a = c in
    tells_of Answers (a.in-Over.is ∙ ap Over a.in-Complete.is) (tells_complete _)

returns_3 : tie.Need-returns-in-Alarm
returns_3 c =
    let a = c in
    tells_of Answers (a.in-Over.is ∙ ap Over a.in-Alarm.is) (tells_alarm _ _ _)

pub is_fitting_spec : {M : Type 1} → statement M
is_fitting_spec =
    tie.close
    (tie.spec
    (λ c. search rules)
    (λ c. search rules)
    (λ c. search rules)
    (λ c. search rules)
    returns
    returns_2
    returns_3)
