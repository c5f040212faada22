-- `interpreter::interpret::run_read` meets its contract.
use mathlib.Core.Path.{sym, subst}
use mathlib.Core.Bool.{false}
use borrow.Author.Rules.{rules}
use Rattle.settings.specs.Known.{Right}
use Rattle.settings.specs.declared.Settings.{Settings}
use Rattle.settings.proofs.Right.{right_points}
use Rattle.interpreter.specs.Answers.{read_then}
use Rattle.interpreter.proofs.Whole.{none_begun, read_gives, run_gives}
use Rattle.interpreter.proofs.Within.{cut_size, cut_lent}
use Rattle.interpreter.proofs.interpret.run_read.Statement.{statement}
use Rattle.interpreter.proofs.interpret.run_read.Tie as tie

slice_aggregate_lines : tie.Need-slice_bounds-lines-end
slice_aggregate_lines c =
    let m = c in
    let s = m in
    cut_size s.args.tape.now s.args.places.now s.args.count s.requires.0 m.in-Whole.is

run_main_requires : tie.Need-run_main-requires
run_main_requires c κs =
    let m = c in
    let s = m in (
      cut_lent s.args.tape.now s.args.places.now s.args.count s.requires.0 m.in-Whole.is,
      subst (λ (x : Settings). Right s.args.table.now x) (sym c.with_points-running.ensures) (right_points false s.requires.1),
      s.requires.2,
    )

returns : tie.Need-returns-in-Alarm
unfolding read_then
returns c =
    let a = c.args in
    read_gives a.tape.now a.table.now a.set a.places.now a.buf.now c.in-Alarm.is (none_begun _ _ a.buf.now)

returns_2 : tie.Need-returns-in-Whole
unfolding read_then
returns_2 c =
    let r = c in
    let m = r in
    let a = m.args in
    read_gives a.tape.now a.table.now a.set a.places.now a.buf.now m.in-Whole.is
    (run_gives a.tape.now a.table.now a.set a.places.now a.buf.now m.in-Whole.first m.in-Whole.end r.with_points-running.ensures r.run_main.ensures)

pub run_read_spec : {M : Type 1} → statement M
run_read_spec =
    tie.close
    (tie.spec
    (λ c. search rules)
    (λ c. search rules)
    slice_aggregate_lines
    (λ c κs. search rules)
    run_main_requires
    returns
    (λ c. search rules)
    returns_2)
