-- `board::tm02_interpret` meets its contract.
use mathlib.Core.Path.{sym, ◌∙◌}
use borrow.Author.Rules.{rules}
use Rattle.panel.proofs.Rows.{all_there}
use Rattle.board.proofs.Doors.{refused_here, ran_here, answer_fits}
use Rattle.board.proofs.tm02_interpret.Statement.{statement}
use Rattle.board.proofs.tm02_interpret.Tie as tie

returns : tie.Need-returns-then-unfit
returns c =
    let a = c.args in
    refused_here a.tape.now a.table.now a.settings.now a.places.now a.buf.now (sym c.unfit.ensures ∙ c.if-unfit.true) c.packed_answer.ensures.0

settings_of_requires : tie.Need-settings_of-requires
settings_of_requires c κs = all_there c.args.settings.now (sym c.unfit.ensures ∙ c.if-unfit.false)

packed_answer_requires_2 : tie.Need-packed_answer-requires-2
packed_answer_requires_2 c κs =
    let a = c.args in
    answer_fits a.tape.now a.table.now a.settings.now a.places.now a.buf.now _ c.interpret-answer.ensures.0

returns_2 : tie.Need-returns
returns_2 c =
    let run = c.interpret-answer in
    let o = c in
    let e = o in
    let a = c.args in
    ran_here a.tape.now a.table.now a.settings.now a.places.now a.buf.now (sym e.unfit.ensures ∙ e.if-unfit.false)
    o.settings_of.ensures run.ensures.0 c.packed_answer-2.ensures.0 run.ensures.1.0 run.ensures.1.1

pub tm02_interpret_spec : {M : Type 1} → statement M
tm02_interpret_spec =
    tie.close
    (tie.spec
    (λ c κs. search rules)
    (λ c κs. search rules)
    returns
    settings_of_requires
    (λ c κs. search rules)
    packed_answer_requires_2
    (λ c. search rules)
    (λ c. search rules)
    returns_2)
