-- `stepping::advance` meets its contract.
use borrow.Author.Rules.{rules}
use Rattle.stepping.proofs.Turning.{Advancing, advance_first, advance_meets, advance_on, nearer, stands_block, stands_over}
use Rattle.stepping.proofs.advance.Statement.{statement}
use Rattle.stepping.proofs.advance.Tie as tie

abbrev invariant_loop : tie.invariant-loop-turned
invariant_loop tape table set places now₀ now = Advancing tape table set places now₀ now

abbrev decreases_loop : tie.decreases-loop-turned
decreases_loop tape table set places now₀ now = now.run.blocks_left

loop_holds : tie.Need-loop-turned-init invariant_loop decreases_loop
loop_holds c =
    let s = c in
    let a = s.args in
    advance_first a.tape.now a.table.now a.set a.places.now a.g s.requires.0 s.requires.1

turn_requires : tie.Need-turn-turned-requires invariant_loop decreases_loop
turn_requires c κs = (c.loop-turned.invariant.fit, c.loop-turned.invariant.on)

-- a turn, with its loop
module _ (k : tie.After-turn-turned invariant_loop decreases_loop) where
  abbrev begun : tie.Start invariant_loop decreases_loop
  begun = k.before.before.before.before

returns : tie.Need-returns-in-Block invariant_loop decreases_loop
returns c =
    let k = c in
    let a = (begun k.before.before).args in (
      advance_meets a.tape.now a.table.now a.set a.places.now a.g k.loop-turned.now k.loop-turned.invariant k.turn-turned.result k.turn-turned.ensures.0,
      stands_block k.turn-turned.result.hand k.turn-turned.result.going.phase c.in-Block.is tt,
    )

returns_2 : tie.Need-returns-in-Over invariant_loop decreases_loop
returns_2 c =
    let k = c in
    let a = (begun k.before.before.before).args in (
      advance_meets a.tape.now a.table.now a.set a.places.now a.g k.loop-turned.now k.loop-turned.invariant k.turn-turned.result k.turn-turned.ensures.0,
      stands_over k.turn-turned.result.hand k.turn-turned.result.going.phase c.in-Nothing.is c.in-Over.is tt,
    )

loop_less : tie.Need-loop-turned-smaller invariant_loop decreases_loop
loop_less c =
    let k = c in
    nearer k.loop-turned.now.run k.turn-turned.result.going.run c.in-Running.is k.turn-turned.ensures.1

loop_again : tie.Need-loop-turned-preserved invariant_loop decreases_loop
loop_again c =
    let k = c in
    let a = (begun k.before.before.before).args in
    advance_on a.tape.now a.table.now a.set a.places.now a.g k.loop-turned.now k.loop-turned.invariant k.turn-turned.result k.turn-turned.ensures.0 c.in-Nothing.is
    c.in-Running.is

pub advance_spec : {M : Type 1} → statement M
advance_spec =
    tie.close
    (tie.spec
    invariant_loop
    decreases_loop
    loop_holds
    turn_requires
    (λ c. search rules)
    returns
    (λ c. search rules)
    (λ c. search rules)
    returns_2
    (λ c. search rules)
    loop_less
    loop_again)
