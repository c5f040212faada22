-- `runners::run_program` and `runners::run_call`, which call each other, meet their contracts.
use Rattle.std.proofs.Common.{◌≡◌, ◌⊎◌, inl, inr, refl, rules, arith, ap}
use denote.Enum.Declared.{tag_of}
use Rattle.tape.specs.declared.line.Line.{Line}
use Rattle.ahead.proofs.Places.{found_within}
use Rattle.runners.specs.declared.Ending.{Ending}
use Rattle.runners.specs.declared.Ending.TheVariants.{Returned, Ended, Stopped}
use Rattle.runners.specs.contracts.Ending.{the_type}
use Rattle.runners.proofs.Going
use Rattle.runners.proofs.+run_call_run_program.Goals as goal

-- an ending that is no return is an end or a stop
others : (e : Ending) → (e ≡ Returned → ⊥) → (tag_of the_type e ≡ 1) ⊎ (tag_of the_type e ≡ 2)
others Returned h = absurd (h refl)
others Ended h = inl refl
others (Stopped a p) h = inr refl

-- ---- the runs of a call
pub run_call-returns-then-calls-eq0 : goal.run_call-returns-then-calls-eq0
run_call-returns-then-calls-eq0 t c =
    let a = c.args in
    let n = c.requires in
    Going.nothing a.tape.now a.table.now a.set a.first a.buf.now n.ready.header
    (Going.none_left a.tape.now a.table.now a.set a.first a.buf.now n.ready.header a.program a.calls a.times a.run c.if-calls-eq0.true) n.fit

pub run_call-loop-n-init : goal.run_call-loop-n-init
run_call-loop-n-init t c =
    let a = c.args in
    let n = c.requires in (
      Going.first_time a.tape.now a.table.now a.set a.first a.buf.now n.ready.header a.program a.calls a.times a.run n.fit c.if-calls-eq0.false,
      n.ready,
      n.few,
      n.there,
      c.if-calls-eq0.false,
    )

pub run_call-run_program-o-requires : goal.run_call-run_program-o-requires
run_call-run_program-o-requires t c =
    let i = c.loop-n.invariant in
    let a = c.args in (
      omega (arith, i.4),
      Going.run_begins a.tape.now a.table.now a.set a.first a.buf.now i.1.header a.program a.calls a.times a.run i.0 c.loop-n-test.true i.3 i.1 i.2,
    )

pub run_call-returns-in_default : goal.run_call-returns-in_default
run_call-returns-in_default t c =
    let i = c.loop-n.invariant in
    let a = c.args in
    Going.broke a.tape.now a.table.now a.set a.first a.buf.now i.1.header a.program a.calls a.times a.run i.0 c.loop-n-test.true c.run_program-o.ensures (others _ c.in_default.not-Returned)

pub run_call-loop-n-preserved : goal.run_call-loop-n-preserved
run_call-loop-n-preserved t c =
    let i = c.loop-n.invariant in
    let a = c.args in
    (Going.again a.tape.now a.table.now a.set a.first a.buf.now i.1.header a.program a.calls a.times a.run i.0 c.loop-n-test.true c.run_program-o.ensures c.in-Returned.is, i.1, i.2, i.3, i.4)

pub run_call-returns : goal.run_call-returns
run_call-returns t c =
    let i = c.loop-n.invariant in
    let a = c.args in
    Going.all a.tape.now a.table.now a.set a.first a.buf.now i.1.header a.program a.calls a.times a.run i.0 (omega (arith, c.loop-n-test.false))

-- ---- the blocks of a program
pub run_program-line_at-line-requires : goal.run_program-line_at-line-requires
run_program-line_at-line-requires t c = found_within c.args.tape.now c.args.first c.args.program c.requires.there

pub run_program-loop-now-init : goal.run_program-loop-now-init
run_program-loop-now-init t c =
    let a = c.args in
    let n = c.requires in
    let e = ap (λ (x : Line). x.after) c.line_at-line.ensures.0 in (
      Going.start_at a.tape.now a.table.now a.set a.first a.buf.now n.ready.header a.program a.calls a.run n.fit n.few e c.line_at-line.ensures.1.ends,
      n.ready,
      n.few,
      n.there,
    )

pub run_program-take_step-done-requires : goal.run_program-take_step-done-requires
run_program-take_step-done-requires t c =
    let i = c.loop-now.invariant in
    let a = c.args in
    Going.step_needs a.tape.now a.table.now a.set a.first a.buf.now i.1.header a.program a.calls a.run i.0 i.3 i.1

pub run_program-loop-now-smaller-in-On : goal.run_program-loop-now-smaller-in-On
run_program-loop-now-smaller-in-On t c =
    let i = c.loop-now.invariant in
    let a = c.args in
    Going.less_on a.tape.now a.table.now a.set a.first a.buf.now i.1.header a.program a.calls a.run i.0 c.take_step-done.ensures c.in-On.is

pub run_program-loop-now-preserved-in-On : goal.run_program-loop-now-preserved-in-On
run_program-loop-now-preserved-in-On t c =
    let i = c.loop-now.invariant in
    let a = c.args in
    (Going.next a.tape.now a.table.now a.set a.first a.buf.now i.1.header a.program a.calls a.run i.0 c.take_step-done.ensures c.in-On.is, i.1, i.2, i.3)

pub run_program-loop-now-smaller-in-Jump : goal.run_program-loop-now-smaller-in-Jump
run_program-loop-now-smaller-in-Jump t c =
    let i = c.loop-now.invariant in
    let a = c.args in
    Going.less_jump a.tape.now a.table.now a.set a.first a.buf.now i.1.header a.program a.calls a.run i.0 c.take_step-done.ensures c.in-Jump.place c.in-Jump.is

pub run_program-loop-now-preserved-in-Jump : goal.run_program-loop-now-preserved-in-Jump
run_program-loop-now-preserved-in-Jump t c =
    let i = c.loop-now.invariant in
    let a = c.args in
    (Going.jump a.tape.now a.table.now a.set a.first a.buf.now i.1.header a.program a.calls a.run i.0 c.take_step-done.ensures c.in-Jump.place c.in-Jump.is, i.1, i.2, i.3)

pub run_program-run_call-o-requires : goal.run_program-run_call-o-requires
run_program-run_call-o-requires t c =
    let i = c.loop-now.invariant in
    let a = c.args in (
      omega arith,
      Going.call_begins a.tape.now a.table.now a.set a.first a.buf.now i.1.header a.program a.calls a.run i.0 c.take_step-done.ensures c.in-Call.called c.in-Call.times c.in-Call.is i.1 i.2,
    )

pub run_program-loop-now-smaller : goal.run_program-loop-now-smaller
run_program-loop-now-smaller t c =
    let i = c.loop-now.invariant in
    let a = c.args in
    Going.call_left a.tape.now a.table.now a.set a.first a.buf.now i.1.header a.program a.calls a.run i.0 c.take_step-done.ensures c.in-Call.called c.in-Call.times c.in-Call.is c.run_call-o.ensures

pub run_program-loop-now-preserved : goal.run_program-loop-now-preserved
run_program-loop-now-preserved t c =
    let i = c.loop-now.invariant in
    let a = c.args in (
      Going.call_returned a.tape.now a.table.now a.set a.first a.buf.now i.1.header a.program a.calls a.run i.0 c.take_step-done.ensures c.in-Call.called c.in-Call.times c.in-Call.is c.run_call-o.ensures
          c.in-Returned.is,
      i.1,
      i.2,
      i.3,
    )

pub run_program-returns-in_default : goal.run_program-returns-in_default
run_program-returns-in_default t c =
    let i = c.loop-now.invariant in
    let a = c.args in
    Going.call_broke a.tape.now a.table.now a.set a.first a.buf.now i.1.header a.program a.calls a.run i.0 c.take_step-done.ensures c.in-Call.called c.in-Call.times c.in-Call.is c.run_call-o.ensures (others _ c.in_default.not-Returned)

pub run_program-returns-in-Return : goal.run_program-returns-in-Return
run_program-returns-in-Return t c =
    let i = c.loop-now.invariant in
    let a = c.args in
    Going.returns a.tape.now a.table.now a.set a.first a.buf.now i.1.header a.program a.calls a.run i.0 c.take_step-done.ensures c.in-Return.is

pub run_program-returns-in-End : goal.run_program-returns-in-End
run_program-returns-in-End t c =
    let i = c.loop-now.invariant in
    let a = c.args in
    Going.ended a.tape.now a.table.now a.set a.first a.buf.now i.1.header a.program a.calls a.run i.0 c.take_step-done.ensures c.in-End.is

pub run_program-returns-in-Stop : goal.run_program-returns-in-Stop
run_program-returns-in-Stop t c =
    let i = c.loop-now.invariant in
    let a = c.args in
    Going.stops a.tape.now a.table.now a.set a.first a.buf.now i.1.header a.program a.calls a.run i.0 c.take_step-done.ensures c.in-Stop.alarm c.in-Stop.place c.in-Stop.is
