-- `starting::start` meets its contract.
use mathlib.Core.Path.{◌≡◌, sym, ◌∙◌}
use mathlib.Core.Bool.{false}
use borrow.Author.Rules.{rules}
use Rattle.settings.specs.Wrong.{settings_wrong}
use Rattle.starting.proofs.Meeting.{wrong_settings, wrong_kept, long_tape, long_kept, read_filled, read_refused, cut_size, begin_needs, read_begun}
use Rattle.starting.proofs.start.Statement.{statement}
use Rattle.starting.proofs.start.Tie as tie

-- the settings are right
fine : (c : tie.Else-settings_wrong) → let a = c.args in settings_wrong a.table.now a.set ≡ false
fine c = sym c.settings_wrong.ensures ∙ c.if-settings_wrong.false

returns : tie.Need-returns-then-settings_wrong
returns c =
    let a = c.args in
    let h = sym c.settings_wrong.ensures ∙ c.if-settings_wrong.true in
    (wrong_settings a.tape.now a.table.now a.set a.places.now h c.refused.ensures, wrong_kept a.tape.now a.table.now a.set a.places.now h)

returns_2 : tie.Need-returns-then-tape-gt-LONGEST_TAPE
returns_2 c =
    let i = c in
    let a = i.args in
    let h = fine i.before.before in
    (long_tape a.tape.now a.table.now a.set a.places.now h i.if-tape-gt-LONGEST_TAPE.true c.refused-then-tape-gt-LONGEST_TAPE.ensures, long_kept a.tape.now a.table.now a.set a.places.now h i.if-tape-gt-LONGEST_TAPE.true)

slice_aggregate_lines : tie.Need-slice_bounds-lines-end
slice_aggregate_lines c =
    let m = c in
    let t = m in
    let e = t in
    let a = e.args in
    cut_size a.tape.now a.table.now a.set a.places.now (fine e.before.before.before.before.before.before) e.if-tape-gt-LONGEST_TAPE.false t.read_tape-told.ensures.0.is t.read_tape-told.ensures.1 m.in-Whole.field-0 m.in-Whole.end m.in-Whole.is

begin_requires : tie.Need-begin-requires
begin_requires c κs =
    let m = c in
    let t = m in
    let e = t in
    let a = e.args in
    begin_needs a.tape.now a.table.now a.set a.places.now (fine e.before.before.before.before.before.before) e.if-tape-gt-LONGEST_TAPE.false t.read_tape-told.ensures.0.is t.read_tape-told.ensures.1 m.in-Whole.field-0 m.in-Whole.end m.in-Whole.is

returns_3 : tie.Need-returns-in-Alarm
returns_3 c =
    let m = c in
    let t = m in
    let e = t in
    let a = e.args in
    let h = fine e.before.before.before.before.before.before.before in (
      read_refused a.tape.now a.table.now a.set a.places.now h e.if-tape-gt-LONGEST_TAPE.false t.read_tape-told.ensures.0.is t.read_tape-told.ensures.1 m.in-Alarm.alarm m.in-Alarm.place m.in-Alarm.is c.refused-in-Alarm.ensures,
      read_filled a.tape.now a.table.now a.set a.places.now h e.if-tape-gt-LONGEST_TAPE.false t.read_tape-told.ensures.0.is t.read_tape-told.ensures.1,
    )

returns_4 : tie.Need-returns-in-Whole
returns_4 c =
    let m = c in
    let t = m in
    let e = t in
    let a = e.args in
    let h = fine e.before.before.before.before.before.before.before in (
      read_begun a.tape.now a.table.now a.set a.places.now h e.if-tape-gt-LONGEST_TAPE.false t.read_tape-told.ensures.0.is t.read_tape-told.ensures.1 m.in-Whole.field-0 m.in-Whole.end m.in-Whole.is c.begin.ensures,
      read_filled a.tape.now a.table.now a.set a.places.now h e.if-tape-gt-LONGEST_TAPE.false t.read_tape-told.ensures.0.is t.read_tape-told.ensures.1,
    )

pub start_spec : {M : Type 1} → statement M
start_spec =
    tie.close
    (tie.spec
    (λ c κs. search rules)
    (λ c κs. search rules)
    returns
    (λ c κs. search rules)
    returns_2
    (λ c κs. search rules)
    (λ c. search rules)
    (λ c κs. search rules)
    (λ c. search rules)
    slice_aggregate_lines
    begin_requires
    (λ c. search rules)
    returns_3
    (λ c. search rules)
    returns_4)
