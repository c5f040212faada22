-- `returning::call` meets its contract.
use mathlib.Core.Path.{◌∙◌, ap}
use native.Mathlib.Omega.{arith}
use borrow.Author.Rules.{rules}
use lib.ListN.{length, length-set}
use Rattle.paused.specs.declared.Going.{Going}
use Rattle.returning.specs.Moving.{came_back}
use Rattle.returning.proofs.Moving.{called_deep, called_in}
use Rattle.returning.proofs.call.Statement.{statement}
use Rattle.returning.proofs.call.Tie as tie

returns : tie.Need-returns-then-frame-eq0
returns c =
    let t = c in
    let a = t.args in
    c.stopped.ensures ∙ called_deep a.tape.now a.g a.run a.called a.times a.after t.if-frame-eq0.true

come_back_requires : tie.Need-come_back-requires
come_back_requires c κs =
    let s = c in
    let n = s.requires in
    let is = c.pushed.ensures in (
      omega (arith, ap (λ (x : Going). x.frame.calls_left) is, n.0),
      ap (λ (x : Going). length x.waiting) is ∙ length-set s.args.g.waiting _ _ ∙ n.1,
      omega (arith, ap (λ (x : Going). x.frame.program.line) is, n.2),
    )

returns_2 : tie.Need-returns
returns_2 c =
    let p = c in
    let e = p in
    let a = e.args in
    c.come_back.ensures ∙ ap (came_back a.tape.now) p.pushed.ensures ∙ called_in a.tape.now a.g a.run a.called a.times a.after e.if-frame-eq0.false

pub call_spec : {M : Type 1} → statement M
call_spec = tie.close (tie.spec (λ c κs. search rules) returns (λ c κs. search rules) come_back_requires returns_2)
