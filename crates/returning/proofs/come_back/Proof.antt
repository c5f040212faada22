-- `returning::come_back` meets its contract.
use mathlib.Core.Path.{◌∙◌}
use borrow.Author.Rules.{rules}
use Rattle.returning.proofs.Moving.{came_main, came_popped, came_repeated}
use Rattle.returning.proofs.come_back.Statement.{statement}
use Rattle.returning.proofs.come_back.Tie as tie

returns : tie.Need-returns-then-frame-eq-MOST_CALLS
returns c =
    let t = c in
    let a = t.args in
    c.stopped.ensures ∙ came_main a.tape.now a.g t.if-frame-eq-MOST_CALLS.true

returns_2 : tie.Need-returns-then-w-eq0
returns_2 c =
    let t = c in
    let o = t in
    let e = o in
    let a = e.args in
    c.popped.ensures ∙ came_popped a.tape.now a.g e.if-frame-eq-MOST_CALLS.false o.top_of-w.ensures t.if-w-eq0.true

returns_3 : tie.Need-returns
returns_3 c =
    let t = c in
    let o = t in
    let e = o in
    let a = e.args in
    c.repeated.ensures ∙ came_repeated a.tape.now a.g e.if-frame-eq-MOST_CALLS.false o.top_of-w.ensures t.if-w-eq0.false

pub come_back_spec : {M : Type 1} → statement M
come_back_spec = tie.close (tie.spec (λ c κs. search rules) returns (λ c κs. search rules) (λ c κs. search rules) returns_2 (λ c κs. search rules) returns_3)
