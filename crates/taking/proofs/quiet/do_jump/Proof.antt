-- `taking::quiet::do_jump` meets its contract.
use mathlib.Core.Path.{sym, ◌∙◌}
use borrow.Author.Rules.{rules}
use Rattle.taking.proofs.Stepping.{jump_refused, jump_went}
use Rattle.taking.proofs.quiet.do_jump.Statement.{statement}
use Rattle.taking.proofs.quiet.do_jump.Tie as tie

returns : tie.Need-returns-then-asked-ne0
returns c =
    let t = c in
    let l = t in
    let a = l.args in
    record {
      onward = l.look_up-onward.result;
      is = c.stopped.ensures ∙ jump_refused l.look_up-onward.result a.frame a.run a.after t.alarm_by-asked.ensures t.if-asked-ne0.true;
      looks = l.look_up-onward.ensures.1;
      found = l.look_up-onward.ensures.0;
    }

returns_2 : tie.Need-returns
returns_2 c =
    let e = c in
    let l = e in
    let a = l.args in
    record {
      onward = l.look_up-onward.result;
      is = c.went.ensures ∙ jump_went l.look_up-onward.result a.frame a.run a.after (sym e.alarm_by-asked.ensures ∙ e.if-asked-ne0.false);
      looks = l.look_up-onward.ensures.1;
      found = l.look_up-onward.ensures.0;
    }

pub do_jump_spec : {M : Type 1} → statement M
do_jump_spec = tie.close (tie.spec (λ c κs. search rules) (λ c κs. search rules) (λ c κs. search rules) returns (λ c κs. search rules) returns_2)
