-- `answers::finish` meets its contract.
use mathlib.Core.Path.{refl}
use borrow.Author.Rules.{rules}
use Rattle.answers.specs.Answers.{answer_by}
use Rattle.answers.proofs.Finished.{finished}
use Rattle.answers.proofs.finish.Statement.{statement}
use Rattle.answers.proofs.finish.Tie as tie

returns : tie.Need-returns-in-Ended
unfolding answer_by
returns c =
    let a = c.args in
    finished a.count c.in-Ended.is refl a.buf.now c.put_header.ensures

returns_2 : tie.Need-returns-in-Stopped
unfolding answer_by
returns_2 c =
    let a = c.args in
    finished a.count c.in-Stopped.is refl a.buf.now refl

returns_3 : tie.Need-returns-in-Returned
unfolding answer_by
returns_3 c =
    let a = c.args in
    finished a.count c.in-Returned.is refl a.buf.now refl

pub finish_spec : {M : Type 1} → statement M
finish_spec =
    tie.close
    (tie.spec
    (λ c. search rules)
    (λ c. search rules)
    (λ c κs. search rules)
    (λ c. search rules)
    (λ c. search rules)
    (λ c. search rules)
    returns
    returns_2
    returns_3)
