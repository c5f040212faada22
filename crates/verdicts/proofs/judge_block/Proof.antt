-- `verdicts::judge_block` meets its contract.
use mathlib.Core.Path.{◌≡◌, sym, ap, ◌∙◌}
use native.Mathlib.Omega.{arith}
use borrow.Author.Rules.{rules}
use Rattle.asking.specs.Judge.{asks_of, alarm_of}
use Rattle.deeds.specs.declared.Deed.{Deed}
use Rattle.verdicts.specs.declared.Verdict.TheVariants.{Refused, Goes}
use Rattle.verdicts.specs.Verdicts.{asks_in, alarm_in, going_of}
use Rattle.verdicts.proofs.Passing.{verdict_goes, verdict_refused}
use Rattle.verdicts.proofs.judge_block.Statement.{statement}
use Rattle.verdicts.proofs.judge_block.Tie as tie

abbrev deed_at : tie.After-alarm_of-alarm → tie.After-deed_in-deed
deed_at l = l.before.before.before.before

abbrev start_at : tie.After-alarm_of-alarm → tie.Start
start_at l = (deed_at l).before.before

-- what is asked of the deed, and its alarm, are the definition's
asked : (l : tie.After-alarm_of-alarm) →
    let a = (start_at l).args in
    l.asks_of-asks.result ≡ asks_in a.table.now a.set a.s a.b
unfolding asks_in
asked l = l.asks_of-asks.ensures.0 ∙ ap (λ (d : Deed). asks_of d (start_at l).args.set.limits) (deed_at l).deed_in-deed.ensures.0

judged : (l : tie.After-alarm_of-alarm) →
    let a = (start_at l).args in
    l.alarm_of-alarm.result ≡ alarm_in a.table.now a.set a.s a.b a.room
unfolding alarm_in
judged l = l.alarm_of-alarm.ensures ∙ (λ i. alarm_of (asked l i) (l.asked_in-asked.ensures i))

-- whether the alarm is 0 is read off by the tactics, so that a condition that is another leaves it without a proof
pub judge_block_spec : {M : Type 1} → statement M
unfolding going_of
judge_block_spec =
    tie.close
    (tie.spec
    (λ c κs. search rules)
    (λ c κs. search rules)
    (λ c κs. search rules)
    (λ c κs. search rules)
    (λ c κs. search rules)
    (λ c.
    let some : c.alarm_of-alarm.result ≡ 0 → ⊥ = grind arith in
    let a = c.args in
    (ap Refused (judged c.before) ∙ sym (verdict_refused a.table.now a.set a.s a.b a.room (λ e. some (judged c.before ∙ e))), tt))
    (λ c.
    let none : c.alarm_of-alarm.result ≡ 0 = omega arith in
    let a = c.args in (
      (λ i. Goes (record { settled = c.settle-settled.ensures i; deed = c.deed_in-deed.ensures.0 i; count = (asked c.before i).count }))
          ∙ sym (verdict_goes a.table.now a.set a.s a.b a.room (sym (judged c.before) ∙ none)),
      c.deed_in-deed.ensures.1,
    )))
