use Rattle.std.proofs.Common.{rules, arith, ◌∙◌, ◌<◌, ap, refl}
use Rattle.runwords.specs.of_paused.declared.Phase.TheVariants.{Over}
use Rattle.runwords.proofs.Tags.{running_laid, complete_laid, stopped_laid, small_in}
use Rattle.runlaid.proofs.phase_words.Goals as goal

pub overflow_cast-result : goal.overflow_cast-result
overflow_cast-result c = let h = small_in c.requires (c.in-Over.is ∙ ap Over c.in-Complete.is) in omega (arith, h)

pub returns-in-Running : goal.returns-in-Running
returns-in-Running c = running_laid c.in-Running.is

pub returns-in-Complete : goal.returns-in-Complete
returns-in-Complete c = complete_laid (c.in-Over.is ∙ ap Over c.in-Complete.is) refl

pub returns-in-Alarm : goal.returns-in-Alarm
returns-in-Alarm c =
    let low : c.from-alarm.result < 256 = search rules in
    stopped_laid (c.in-Over.is ∙ ap Over c.in-Alarm.is) (c.from-alarm.ensures, low) refl refl
