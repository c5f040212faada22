-- `steps::step::take_step` meets its contract.
use mathlib.Core.Path.{refl, subst}
use lib.ListN.{length}
use borrow.Author.Rules.{rules}
use Rattle.moves.specs.Form.{room_of}
use Rattle.wording.specs.of_taking.declared.Hand.TheVariants.{Nothing}
use Rattle.wording.specs.of_taking.Meets.{MetMeets}
use Rattle.wording.proofs.of_taking.Stepping.{quiet_begun, quiet_opens}
use Rattle.steps.proofs.Writing.{able, quiet_meets}
use Rattle.steps.proofs.step.take_step.Statement.{statement}
use Rattle.steps.proofs.step.take_step.Tie as tie

-- where it began
abbrev begun : tie.After-meet_block-met → tie.Start
begun m = m.before.before.before.before

do_quiet_requires : tie.Need-do_quiet-requires
do_quiet_requires c κs =
    let q = c in
    let m = q in
    let a = (begun m.before).args in (
      (begun m.before).requires.ready.filled,
      quiet_begun a.tape.now a.frame.at a.run.blocks_left q.in-Known.quiet
          (subst (MetMeets a.tape.now a.frame.at a.run.blocks_left) q.in-Known.is m.meet_block-met.ensures.1),
    )

do_words_requires : tie.Need-do_words-requires
do_words_requires c κs =
    let q = c in
    let m = q in
    let a = (begun m.before.before).args in
    ((begun m.before.before).requires, subst (MetMeets a.tape.now a.frame.at a.run.blocks_left) q.in-Words.is m.meet_block-met.ensures.1)

returns : tie.Need-returns-in-Known
returns c =
    let q = c in
    let m = q in
    let s = begun m.before.before in
    let a = s.args in
    quiet_meets a.tape.now a.table.now a.set a.first a.buf.now a.places.now a.count a.frame a.run s.requires (record { done = c.do_quiet.result; hand = Nothing })
    (quiet_opens a.tape.now a.table.now a.set a.places.now a.count (room_of (length a.buf.now)) a.frame a.run
    (able a.tape.now a.table.now a.set a.first a.buf.now a.places.now a.count a.frame a.run s.requires) q.in-Known.quiet
    (subst (MetMeets a.tape.now a.frame.at a.run.blocks_left) q.in-Known.is m.meet_block-met.ensures.1) c.do_quiet.ensures) refl

pub take_step_spec : {M : Type 1} → statement M
take_step_spec =
    tie.close
    (tie.spec
    (λ c κs. search rules)
    (λ c. search rules)
    do_quiet_requires
    (λ c. search rules)
    do_words_requires
    returns
    (λ c. search rules)
    (λ c. search rules))
