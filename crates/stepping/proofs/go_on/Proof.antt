-- `stepping::go_on` meets its contract.
use mathlib.Core.Path.{◌≡◌, sym, ap, ◌∙◌}
use Prim.Native.Nat.{ℕ}
use native.Mathlib.Omega.{arith}
use lib.ListN.{length}
use borrow.Author.Rules.{rules}
use Rattle.ahead.specs.declared.Frame.{Frame}
use Rattle.ahead.specs.Ahead.{onto}
use Rattle.ahead.specs.declared.Onward.{Onward}
use Rattle.skipping.specs.of_paused.declared.Going.{Going}
use Rattle.skipping.specs.of_returning.Moving.{moved_to, came_back, called_to, gone_on}
use Rattle.skipping.proofs.of_returning.Keeping.{within_fits}
use Rattle.stepping.proofs.go_on.Statement.{statement}
use Rattle.stepping.proofs.go_on.Tie as tie

-- what a match says of where it goes
module _ (s : tie.Start) where
  abbrev Gone : Onward → Going
  Gone w = gone_on s.args.tape.now s.args.g w s.args.run s.args.after

  told : {w : Onward} → s.args.onward ≡ w → Gone w ≡ Gone s.args.onward
  told e = ap Gone (sym e)

call_requires : tie.Need-call-requires
call_requires c κs =
    let s = c in
    let k = s.requires.0 in
    (k.calls, k.size, omega (arith, c.within-line.ensures, within_fits (length s.args.tape.now) c.in-Call.p.line))

come_back_requires : tie.Need-come_back-requires
come_back_requires c κs =
    let s = c in
    let k = s.requires.0 in
    let is = c.moved-in-Return.ensures in
    (omega (arith, ap (λ (x : Going). x.frame.calls_left) is, k.calls), ap (λ (x : Going). length x.waiting) is ∙ k.size, omega (arith, ap (λ (x : Going). x.frame.program.line) is, k.line, s.requires.1))

returns : tie.Need-returns-in-On
unfolding gone_on
returns c =
    let s = c in
    c.moved.ensures ∙ ap (λ (f : Frame). moved_to s.args.g f s.args.run) c.onto.ensures ∙ told s.before.before.before.before.before.before c.in-On.is

returns_2 : tie.Need-returns-in-Jump
unfolding gone_on
returns_2 c =
    let s = c in
    c.moved-in-Jump.ensures
    ∙ ap (λ (f : Frame). moved_to s.args.g f s.args.run) (c.onto-in-Jump.ensures ∙ ap (onto s.args.g.frame) c.within-to.ensures)
    ∙ told s.before.before.before.before.before.before.before c.in-Jump.is

returns_3 : tie.Need-returns-in-Call
unfolding gone_on
returns_3 c =
    let s = c in
    let m = c in
    c.call.ensures
    ∙ ap (λ (n : ℕ). called_to s.args.tape.now s.args.g s.args.run (record { number = m.in-Call.p.number; line = n }) m.in-Call.times s.args.after) c.within-line.ensures
    ∙ told s.before.before.before.before.before.before m.in-Call.is

returns_4 : tie.Need-returns-in-Return
unfolding gone_on
returns_4 c =
    let s = c in
    c.come_back.ensures ∙ ap (came_back s.args.tape.now) c.moved-in-Return.ensures ∙ told s.before.before.before.before.before.before c.in-Return.is

returns_5 : tie.Need-returns-in-End
unfolding gone_on
returns_5 c = let s = c in c.over.ensures ∙ told s.before.before.before.before.before c.in-End.is

returns_6 : tie.Need-returns-in-Stop
unfolding gone_on
returns_6 c = let s = c in c.stopped.ensures ∙ told s.before.before.before.before.before c.in-Stop.is

pub go_on_spec : {M : Type 1} → statement M
go_on_spec =
    tie.close
    (tie.spec
    (λ c. search rules)
    (λ c κs. search rules)
    (λ c κs. search rules)
    (λ c. search rules)
    (λ c κs. search rules)
    (λ c κs. search rules)
    (λ c κs. search rules)
    (λ c. search rules)
    (λ c κs. search rules)
    call_requires
    (λ c. search rules)
    (λ c κs. search rules)
    come_back_requires
    (λ c. search rules)
    (λ c κs. search rules)
    (λ c. search rules)
    (λ c κs. search rules)
    returns
    returns_2
    returns_3
    returns_4
    returns_5
    returns_6)
