-- `skipping::pass` meets its contract.
use mathlib.Core.Path.{◌≡◌, sym, subst}
use Prim.Native.Nat.{ℕ}
use lib.ListN.{take}
use borrow.Author.Rules.{rules}
use Rattle.moves.specs.Form.{record_limit}
use Rattle.ahead.specs.Ahead.{onto}
use Rattle.ahead.specs.declared.Frame.{Frame}
use Rattle.ahead.specs.declared.Onward.{Onward}
use Rattle.returning.specs.of_taking.declared.Hand.TheVariants.{Nothing}
use Rattle.returning.specs.of_taking.Hands.{Able, Falls, OpenMeets}
use Rattle.returning.specs.of_taking.Meets.{MetMeets, QuietDone, Next}
use Rattle.returning.proofs.of_taking.Stepping.{quiet_begun, quiet_opens}
use Rattle.skipping.proofs.Passing.{Passing, pass_first, pass_on, pass_jump, passed}
use Rattle.skipping.proofs.pass.Statement.{statement}
use Rattle.skipping.proofs.pass.Tie as tie

abbrev invariant_loop : tie.invariant-loop-quiet
invariant_loop tape table set places count frame at₀ now₀ at now = Passing tape table set places count frame now₀ at now

abbrev decreases_loop : tie.decreases-loop-quiet
decreases_loop tape table set places count frame at₀ now₀ at now = now.blocks_left

loop_holds : tie.Need-loop-quiet-init invariant_loop decreases_loop
loop_holds c =
    let s = c in
    let a = s.args in
    pass_first a.tape.now a.table.now a.set a.places.now a.count a.frame a.run s.requires

meet_block_requires : tie.Need-meet_block-met-requires invariant_loop decreases_loop
meet_block_requires c κs = c.loop-quiet.invariant.able.here

do_quiet_requires : tie.Need-do_quiet-done-requires invariant_loop decreases_loop
do_quiet_requires c κs =
    let q = c in
    let m = q in
    let p = m in
    let a = p.args in (
      p.loop-quiet.invariant.able.filled,
      quiet_begun a.tape.now p.loop-quiet.at p.loop-quiet.now.blocks_left q.in-Known.quiet
          (subst (MetMeets a.tape.now p.loop-quiet.at p.loop-quiet.now.blocks_left) q.in-Known.is m.meet_block-met.ensures.1),
    )

-- ---- a block that is told by its text, done
module _ (k : tie.After-do_quiet-done invariant_loop decreases_loop) where
  abbrev told : tie.After-meet_block-met invariant_loop decreases_loop
  told = k.before.before

  opens : let p = told in let a = p.args in
      OpenMeets a.tape.now a.table.now a.set a.places.now a.count record_limit (onto a.frame p.loop-quiet.at) p.loop-quiet.now (record { done = k.do_quiet-done.result; hand = Nothing })
  opens =
      let q = k in
      let p = told in
      let a = p.args in
      quiet_opens a.tape.now a.table.now a.set a.places.now a.count record_limit (onto a.frame p.loop-quiet.at) p.loop-quiet.now p.loop-quiet.invariant.able q.in-Known.quiet
      (subst (MetMeets a.tape.now p.loop-quiet.at p.loop-quiet.now.blocks_left) q.in-Known.is told.meet_block-met.ensures.1)
      (subst (λ (f : Frame). QuietDone (take a.count a.places.now) a.set f q.in-Known.quiet p.loop-quiet.now k.do_quiet-done.result) told.onto-here.ensures k.do_quiet-done.ensures)

  falls : (v : Onward) → k.do_quiet-done.result.onward ≡ v → Falls v told.loop-quiet.now k.do_quiet-done.result.run
  falls v e = subst (λ (x : Onward). Falls x told.loop-quiet.now k.do_quiet-done.result.run) e opens.left

loop_less : tie.Need-loop-quiet-smaller-in-On invariant_loop decreases_loop
loop_less c = falls c.before.before _ c.in-On.is

loop_again : tie.Need-loop-quiet-preserved-in-On invariant_loop decreases_loop
loop_again c =
    let k = c in
    let p = (told k.before.before).before.before in
    let a = p.args in
    pass_on a.tape.now a.table.now a.set a.places.now a.count a.frame a.run p.loop-quiet.at p.loop-quiet.now p.loop-quiet.invariant k.do_quiet-done.result (opens k.before.before) c.in-On.is

loop_less_2 : tie.Need-loop-quiet-smaller invariant_loop decreases_loop
loop_less_2 c = falls c.before.before.before _ c.in-Jump.is

loop_again_2 : tie.Need-loop-quiet-preserved invariant_loop decreases_loop
loop_again_2 c =
    let k = c in
    let p = (told k.before.before.before).before.before in
    let a = p.args in
    subst (λ (n : ℕ). Passing a.tape.now a.table.now a.set a.places.now a.count a.frame a.run n k.do_quiet-done.result.run) (sym c.within-at.ensures)
    (pass_jump a.tape.now a.table.now a.set a.places.now a.count a.frame a.run p.loop-quiet.at p.loop-quiet.now p.loop-quiet.invariant k.do_quiet-done.result (opens k.before.before.before)
    c.in-Jump.p c.in-Jump.is)

returns : tie.Need-returns-in_default invariant_loop decreases_loop
returns c =
    let k = c in
    let p = (told k.before.before).before.before in
    let a = p.args in
    let is = (told k.before.before).onto-here.ensures in
    passed a.tape.now a.table.now a.set a.places.now a.count a.frame a.run p.loop-quiet.at p.loop-quiet.now p.loop-quiet.invariant (told k.before.before).onto-here.result is
    (record { done = k.do_quiet-done.result; hand = Nothing })
    (subst (λ (f : Frame). OpenMeets a.tape.now a.table.now a.set a.places.now a.count record_limit f p.loop-quiet.now (record { done = k.do_quiet-done.result; hand = Nothing })) (sym is) (opens k.before.before))

open_words_requires : tie.Need-open_words-opened-requires invariant_loop decreases_loop
open_words_requires c κs =
    let q = c in
    let m = q in
    let p = m in
    let a = p.args in
    let is = m.onto-here.ensures in (
      subst (λ (f : Frame). Able a.tape.now a.table.now a.set a.places.now a.count record_limit f p.loop-quiet.now) (sym is) p.loop-quiet.invariant.able,
      subst (λ (f : Frame). Next a.tape.now f.at q.in-Words.line) (sym is)
          (subst (MetMeets a.tape.now p.loop-quiet.at p.loop-quiet.now.blocks_left) q.in-Words.is m.meet_block-met.ensures.1),
    )

returns_2 : tie.Need-returns-in-Words invariant_loop decreases_loop
returns_2 c =
    let m = c in
    let p = m in
    let a = p.args in
    passed a.tape.now a.table.now a.set a.places.now a.count a.frame a.run p.loop-quiet.at p.loop-quiet.now p.loop-quiet.invariant m.onto-here.result m.onto-here.ensures
    c.open_words-opened.result c.open_words-opened.ensures

pub pass_spec : {M : Type 1} → statement M
pass_spec =
    tie.close
    (tie.spec
    invariant_loop
    decreases_loop
    loop_holds
    (λ c κs. search rules)
    meet_block_requires
    (λ c. search rules)
    do_quiet_requires
    (λ c. search rules)
    loop_less
    loop_again
    (λ c. search rules)
    (λ c κs. search rules)
    loop_less_2
    loop_again_2
    returns
    (λ c. search rules)
    open_words_requires
    returns_2)
