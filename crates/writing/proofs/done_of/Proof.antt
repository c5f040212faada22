-- `writing::done_of` meets its contract.
use mathlib.Core.Path.{◌∙◌}
use mathlib.Core.Bool.{not, ◌&&◌}
use mir.Syntax.{w32}
use mir.Val.{SFits}
use mir.Facts.{to_z-of_z}
use borrow.Author.Rules.{rules}
use Rattle.writing.specs.Writes.{moved, done}
use Rattle.writing.proofs.Matched.{done_by}
use Rattle.writing.proofs.done_of.Statement.{statement}
use Rattle.writing.proofs.done_of.Tie as tie

returns : tie.Need-returns-in-Nothing
unfolding done
returns c = done_by c.args.s c.in-Nothing.is

returns_2 : tie.Need-returns-in-Nowhere
unfolding done
returns_2 c = done_by c.args.s c.in-Nowhere.is

returns_3 : tie.Need-returns-in-Dwell
unfolding done
returns_3 c = done_by c.args.s c.in-Dwell.is

returns_4 : tie.Need-returns-in-Straight
unfolding done
returns_4 c =
    let m = c in
    let s = m in
    let f : SFits w32 m.in-Straight.m.goes.x = search rules in
    let g : SFits w32 m.in-Straight.m.goes.z = search rules in
    c.moved.ensures ∙ (λ i. moved s.args.s (s.args.s.rapid_due && not m.in-Straight.m.rapid) (to_z-of_z f i) (to_z-of_z g i)) ∙ done_by s.args.s m.in-Straight.is

returns_5 : tie.Need-returns-in-Round
unfolding done
returns_5 c =
    let m = c in
    let s = m in
    let f : SFits w32 m.in-Round.r.arc.end.x = search rules in
    let g : SFits w32 m.in-Round.r.arc.end.z = search rules in
    c.moved-in-Round.ensures ∙ (λ i. moved s.args.s s.args.s.rapid_due (to_z-of_z f i) (to_z-of_z g i)) ∙ done_by s.args.s m.in-Round.is

returns_6 : tie.Need-returns-in-Cycle
unfolding done
returns_6 c = done_by c.args.s c.in-Cycle.is

pub done_of_spec : {M : Type 1} → statement M
done_of_spec =
    tie.close
    (tie.spec
    (λ c. search rules)
    (λ c. search rules)
    (λ c. search rules)
    (λ c. search rules)
    (λ c κs. search rules)
    (λ c. search rules)
    (λ c κs. search rules)
    (λ c. search rules)
    returns
    returns_2
    returns_3
    returns_4
    returns_5
    returns_6)
