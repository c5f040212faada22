-- `deeds::move_of` meets its contract.
use mathlib.Core.Path.{◌≡◌, ap, ◌∙◌}
use mathlib.Core.Bool.{true, false}
use mir.Syntax.{w32}
use mir.Val.{to_z, of_z}
use borrow.Author.Rules.{rules}
use Rattle.moves.specs.Kinds.{rapid, feed, thread, dwell}
use Rattle.cycles.specs.declared.Cycle.TheVariants.{Turning, Threading, Grooving, Drilling}
use Rattle.deeds.specs.declared.Deed.TheVariants.{Dwell, Cycle}
use Rattle.deeds.specs.Deed.{straight_if, move_of}
use Rattle.deeds.proofs.Doing.{move_by}
use Rattle.deeds.proofs.move_of.Statement.{statement}
use Rattle.deeds.proofs.move_of.Tie as tie

-- the places, as the machine reads them back from their bits
x : (c : tie.Start) → to_z w32 (of_z w32 c.args.s.x) ≡ c.args.s.x
x c = search rules

z : (c : tie.Start) → to_z w32 (of_z w32 c.args.s.z) ≡ c.args.s.z
z c = search rules

x_target : (c : tie.Start) → to_z w32 (of_z w32 c.args.s.x_target) ≡ c.args.s.x_target
x_target c = search rules

z_target : (c : tie.Start) → to_z w32 (of_z w32 c.args.s.z_target) ≡ c.args.s.z_target
z_target c = search rules

returns : tie.Need-returns-in-Rapid
unfolding move_of
returns c =
    let r = c in
    let t = r in
    let s = t in
    let goes = r.rapid.ensures ∙ (λ i. rapid (x_target s.before.before.before.before.before i) (z_target s.before.before.before.before.before i)) in
    c.straight_if.ensures ∙ (λ i. straight_if s.args.b true 0 (goes i)) ∙ move_by s.args.b s.args.s t.in-Rapid.is

returns_2 : tie.Need-returns-in-Feed
unfolding move_of
returns_2 c =
    let r = c in
    let t = r in
    let s = t in
    let goes = r.feed.ensures ∙ (λ i. feed (x_target s.before.before.before.before.before i) (z_target s.before.before.before.before.before i) s.args.s.f s.args.s.g95) in
    c.straight_if-in-Feed.ensures ∙ (λ i. straight_if s.args.b false 1 (goes i)) ∙ move_by s.args.b s.args.s t.in-Feed.is

returns_3 : tie.Need-returns-in-Clockwise
unfolding move_of
returns_3 c =
    let a = c.args in
    c.round_if.ensures ∙ move_by a.b a.s c.in-Clockwise.is

returns_4 : tie.Need-returns-in-Counterclockwise
unfolding move_of
returns_4 c =
    let a = c.args in
    c.round_if-in-Counterclockwise.ensures ∙ move_by a.b a.s c.in-Counterclockwise.is

returns_5 : tie.Need-returns-in-Thread
unfolding move_of
returns_5 c =
    let r = c in
    let t = r in
    let s = t in
    let goes = r.thread.ensures ∙ (λ i. thread (x_target s.before.before.before.before.before i) (z_target s.before.before.before.before.before i) s.args.s.f) in
    c.straight_if-in-Thread.ensures ∙ (λ i. straight_if s.args.b false 10 (goes i)) ∙ move_by s.args.b s.args.s t.in-Thread.is

returns_6 : tie.Need-returns-in-Dwell
unfolding move_of
returns_6 c =
    let w = c in
    let t = w in
    let s = t in
    let goes = c.dwell.ensures ∙ (λ i. dwell (x s.before.before.before.before.before i) (z s.before.before.before.before.before i) (w.d_word.ensures.0 i)) in
    ap Dwell goes ∙ move_by s.args.b s.args.s t.in-Dwell.is

returns_7 : tie.Need-returns-in-Turning
unfolding move_of
returns_7 c =
    let a = c.args in
    (λ i. Cycle (Turning (c.turning_of.ensures i))) ∙ move_by a.b a.s c.in-Turning.is

returns_8 : tie.Need-returns-in-Threading
unfolding move_of
returns_8 c =
    let a = c.args in
    (λ i. Cycle (Threading (c.thread_of.ensures i))) ∙ move_by a.b a.s c.in-Threading.is

returns_9 : tie.Need-returns-in-Grooving
unfolding move_of
returns_9 c =
    let a = c.args in
    (λ i. Cycle (Grooving (c.groove_of.ensures i))) ∙ move_by a.b a.s c.in-Grooving.is

returns_10 : tie.Need-returns-in-ChipBreaking
unfolding move_of
returns_10 c =
    let a = c.args in
    (λ i. Cycle (Drilling (c.bore_of.ensures i))) ∙ move_by a.b a.s c.in-ChipBreaking.is

returns_11 : tie.Need-returns-in-Redrawing
unfolding move_of
returns_11 c =
    let a = c.args in
    (λ i. Cycle (Drilling (c.bore_of-in-Redrawing.ensures i))) ∙ move_by a.b a.s c.in-Redrawing.is

pub move_of_spec : {M : Type 1} → statement M
move_of_spec =
    tie.close
    (tie.spec
    (λ c. search rules)
    (λ c κs. search rules)
    (λ c κs. search rules)
    (λ c. search rules)
    (λ c κs. search rules)
    (λ c κs. search rules)
    (λ c. search rules)
    (λ c κs. search rules)
    (λ c. search rules)
    (λ c κs. search rules)
    (λ c. search rules)
    (λ c κs. search rules)
    (λ c κs. search rules)
    (λ c. search rules)
    (λ c κs. search rules)
    (λ c κs. search rules)
    (λ c. search rules)
    (λ c κs. search rules)
    (λ c. search rules)
    (λ c κs. search rules)
    (λ c. search rules)
    (λ c κs. search rules)
    (λ c. search rules)
    (λ c κs. search rules)
    (λ c. search rules)
    (λ c κs. search rules)
    returns
    returns_2
    returns_3
    returns_4
    returns_5
    returns_6
    returns_7
    returns_8
    returns_9
    returns_10
    returns_11)
