-- `interpreter::interpret::interpret` meets its contract.
use mathlib.Core.Path.{◌≡◌, ap}
use mathlib.Core.Bool.{true, false}
use borrow.Author.Rules.{rules}
use Rattle.reading.specs.declared.TapeRead.{TapeRead}
use Rattle.settings.specs.Wrong.{settings_wrong}
use Rattle.settings.proofs.Right.{right}
use Rattle.interpreter.proofs.Whole.{wrong_settings, wrong_kept, long_tape, long_kept, short_buffer, short_kept, read_known, read_filled, goes_on}
use Rattle.interpreter.proofs.interpret.interpret.Statement.{statement}
use Rattle.interpreter.proofs.interpret.interpret.Tie as tie

returns_2 : tie.Need-returns-then-tape-gt-LONGEST_TAPE
returns_2 c =
    let a = c.args in
    let f : settings_wrong a.table.now a.set ≡ false = cc in
    let g = long_tape a.tape.now a.table.now a.set a.places.now a.buf.now f c.if-tape-gt-LONGEST_TAPE.true in
    (g.0, (long_kept a.tape.now a.table.now a.set a.places.now a.buf.now f c.if-tape-gt-LONGEST_TAPE.true, g.1))

returns_3 : tie.Need-returns-then-buf-lt-HEADER_SIZE
returns_3 c =
    let a = c.args in
    let f : settings_wrong a.table.now a.set ≡ false = cc in
    let g = short_buffer a.tape.now a.table.now a.set a.places.now a.buf.now f c.if-tape-gt-LONGEST_TAPE.false c.if-buf-lt-HEADER_SIZE.true in
    (g.0, (short_kept a.tape.now a.table.now a.set a.places.now a.buf.now f c.if-tape-gt-LONGEST_TAPE.false c.if-buf-lt-HEADER_SIZE.true, g.1))

run_read_requires : tie.Need-run_read-requires
run_read_requires c κs =
    let t = c in
    let e = t in
    let a = e.args in
    let f : settings_wrong a.table.now a.set ≡ false = cc in (
      read_known a.tape.now a.table.now a.set a.places.now a.buf.now f e.if-tape-gt-LONGEST_TAPE.false t.read_tape-told.ensures.0.is t.read_tape-told.ensures.1,
      right a.table.now a.set f,
      e.if-buf-lt-HEADER_SIZE.false,
    )

returns_4 : tie.Need-returns
returns_4 c =
    let r = c in
    let t = r in
    let e = t in
    let a = e.args in
    let f : settings_wrong a.table.now a.set ≡ false = cc in
    let g = goes_on a.tape.now a.table.now a.set a.places.now a.buf.now f e.if-tape-gt-LONGEST_TAPE.false e.if-buf-lt-HEADER_SIZE.false
    (ap (λ (x : TapeRead). x.read) t.read_tape-told.ensures.0.is) r.run_read.ensures in
    (g.0, (read_filled a.tape.now a.table.now a.set a.places.now a.buf.now f e.if-tape-gt-LONGEST_TAPE.false e.if-buf-lt-HEADER_SIZE.false t.read_tape-told.ensures.1, g.1))

pub interpret_spec : {M : Type 1} → statement M
interpret_spec =
    tie.close
    (tie.spec
    (λ c κs. search rules)
    (λ c.
    let a = c.args in
    let h : settings_wrong a.table.now a.set ≡ true = cc in
    let g = wrong_settings a.tape.now a.table.now a.set a.places.now a.buf.now h in
    (g.0, (wrong_kept a.tape.now a.table.now a.set a.places.now a.buf.now h, g.1)))
    returns_2
    returns_3
    (λ c κs. search rules)
    run_read_requires
    (λ c. search rules)
    (λ c. search rules)
    returns_4)
