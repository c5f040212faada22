-- `stepping::turn` meets its contract.
use mathlib.Core.Path.{sym, ap, subst, ◌∙◌}
use borrow.Author.Rules.{rules}
use Rattle.skipping.specs.of_paused.Kept.{Kept}
use Rattle.skipping.specs.of_paused.declared.Going.{Going}
use Rattle.skipping.specs.of_returning.Moving.{gone_on}
use Rattle.stepping.proofs.Turning.{kept_here, turn_meets, turn_nearer}
use Rattle.stepping.proofs.turn.Statement.{statement}
use Rattle.stepping.proofs.turn.Tie as tie

pass_requires : tie.Need-pass-passed-requires
pass_requires c κs = search rules

go_on_requires : tie.Need-go_on-going-requires
go_on_requires c κs =
    let k = c in
    let s = c in
    let a = s.args in
    let is = c.moved-there.ensures in (
      subst Kept (sym is) (kept_here a.tape.now a.table.now a.set a.places.now a.g s.requires.0 s.requires.1 k.pass-passed.result k.pass-passed.ensures),
      s.requires.0.read ∙ sym (ap (λ (x : Going). x.end) is),
    )

returns : tie.Need-returns
returns c =
    let k = c in
    let h = c in
    let s = c in
    let a = s.args in
    let p = k.pass-passed.result in
    let is = c.go_on-going.ensures ∙ ap (λ (x : Going). gone_on a.tape.now x p.opened.done.onward p.opened.done.run p.opened.done.after) c.moved-there.ensures in (
      turn_meets a.tape.now a.table.now a.set a.places.now a.g s.requires.0 s.requires.1 p k.pass-passed.ensures h.held-hand.result h.held-hand.ensures.0 h.held-hand.ensures.1 c.go_on-going.result is,
      turn_nearer a.tape.now a.table.now a.set a.places.now a.g s.requires.0 s.requires.1 p k.pass-passed.ensures c.go_on-going.result is,
    )

pub turn_spec : {M : Type 1} → statement M
turn_spec = tie.close (tie.spec pass_requires (λ c κs. search rules) (λ c κs. search rules) go_on_requires returns)
