-- `interpreter::interpret::run_main` meets its contract.
use borrow.Author.Rules.{rules}
use Rattle.interpreter.proofs.Whole.{main_found_lem, main_missing, main_begins, finish_needs, main_ran}
use Rattle.interpreter.proofs.interpret.run_main.Statement.{statement}
use Rattle.interpreter.proofs.interpret.run_main.Tie as tie

returns : tie.Need-returns-in_default
returns c =
    let s = c in
    let a = s.args in
    main_missing a.tape.now a.table.now a.set a.first a.buf.now (main_found_lem a.tape.now a.table.now a.set a.first a.buf.now s.requires.0 c.find_program-found.ensures) c.in_default.is

find_program_requires : tie.Need-find_program-found-requires
find_program_requires c κs = c.requires.0.filled

run_program_requires : tie.Need-run_program-o-requires
run_program_requires c κs =
    let f = c in
    let s = f in
    let a = s.args in
    main_begins a.tape.now a.table.now a.set a.first a.buf.now s.requires.0 s.requires.1 s.requires.2 (main_found_lem a.tape.now a.table.now a.set a.first a.buf.now s.requires.0 f.find_program-found.ensures) f.in-At.line f.in-At.is c.start_of.ensures

finish_requires : tie.Need-finish-requires
finish_requires c κs =
    let r = c in
    let f = r in
    let s = f in
    let a = s.args in
    finish_needs a.tape.now a.table.now a.set a.first a.buf.now s.requires.0 s.requires.1 s.requires.2 f.in-At.line r.start_of.ensures r.run_program-o.ensures

returns_2 : tie.Need-returns
returns_2 c =
    let e = c in
    let r = e in
    let f = r in
    let s = f in
    let a = s.args in
    main_ran a.tape.now a.table.now a.set a.first a.buf.now s.requires.0 s.requires.1 s.requires.2 f.in-At.line r.start_of.ensures r.run_program-o.ensures
    (main_found_lem a.tape.now a.table.now a.set a.first a.buf.now s.requires.0 f.find_program-found.ensures) f.in-At.is e.finish.ensures.0 e.finish.ensures.1

pub run_main_spec : {M : Type 1} → statement M
run_main_spec =
    tie.close
    (tie.spec
    find_program_requires
    (λ c. search rules)
    (λ c. search rules)
    returns
    (λ c κs. search rules)
    run_program_requires
    finish_requires
    (λ c. search rules)
    returns_2)
