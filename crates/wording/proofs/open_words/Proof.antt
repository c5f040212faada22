-- `wording::open_words` meets its contract.
use mathlib.Core.Path.{◌≡◌, sym, ap, ◌∙◌, subst}
use mathlib.Core.List.{List}
use Prim.Native.Nat.{ℕ, ◌+◌, ◌-◌, ◌<◌}
use native.Mathlib.Omega.{arith}
use lib.ListN.{length, take}
use borrow.Author.Rules.{rules}
use Rattle.moves.specs.Form.{stamped}
use Rattle.moves.specs.declared.Record.{Record}
use Rattle.tape.specs.Lines.{lines}
use Rattle.block.specs.Worded.{Worded}
use Rattle.block.specs.declared.Block.{Block}
use Rattle.finding.specs.Finds.{Finds}
use Rattle.finding.proofs.Searching.{program_small}
use Rattle.asking.specs.Judge.{doing}
use Rattle.deeds.specs.Known.{Right}
use Rattle.taking.specs.of_verdicts.Verdicts.{alarm_in, going_of, verdict_of}
use Rattle.taking.specs.of_verdicts.Known.{Known}
use Rattle.taking.specs.of_verdicts.declared.Going.{Going}
use Rattle.taking.proofs.of_verdicts.Passing.{went, was_refused, right_in, counted_in}
use Rattle.taking.specs.of_machine.Blocks.{done_records, done_state}
use Rattle.taking.proofs.of_machine.Running.{done_few, going_records, going_state}
use Rattle.ahead.specs.Ahead.{onto, FoundAt}
use Rattle.ahead.specs.declared.Frame.{Frame}
use Rattle.ahead.specs.declared.Onward.{Onward}
use Rattle.taking.specs.declared.Opened.{Opened}
use Rattle.taking.specs.Steps.{task_in, block_on, onward_of, alarm_by}
use Rattle.taking.specs.Hands.{OpenMeets}
use Rattle.taking.specs.Meets.{onward_in, Asks, went_by}
use Rattle.taking.proofs.Lines.{worded_in, words_are, same_after, same_origin_lem, behind_number}
use Rattle.taking.proofs.Stepping.{onward_same, asks_stops, asks_some, refused_asked, refused_own, gone}
use Rattle.wording.proofs.open_words.Statement.{statement}
use Rattle.wording.proofs.open_words.Tie as tie

-- ---- the block's words, and what it asks of the runner
module _ (k : tie.After-alarm_by-asked) where
  abbrev asking : tie.After-onward_of-onward
  asking = k.before

  abbrev reading : tie.After-words_of-b
  reading = asking.before.before

  abbrev begun : tie.Start
  begun = reading.before.before.before.before

  abbrev row : List ℕ
  row = take begun.args.count begun.args.places.now

  abbrev there : Frame
  there = onto begun.args.frame begun.args.line.at

  abbrev block : Block
  block = block_on begun.args.tape.now begun.args.line.at

  abbrev onward : Onward
  onward = asking.onward_of-onward.result

  words : reading.words_of-b.result ≡ block
  words = words_are begun.args.tape.now begun.requires.1 reading.words_of-b.ensures

  -- as it is defined, where the table of places is the tape's own
  asked : (first : ℕ) → Finds row begun.args.tape.now first → FoundAt begun.args.tape.now first begun.args.frame.program
      → onward ≡ onward_of (task_in begun.args.tape.now begun.args.table.now begun.args.set first begun.args.room) there begun.args.run
  asked first finds here =
      let a = begun.args in
      asking.onward_of-onward.ensures.0 finds.ascends
      ∙ (λ i. onward_in row a.set (asking.onto-there.ensures i) a.run.blocks_left (words i))
      ∙ onward_same row a.tape.now first finds a.set there here a.run.blocks_left block

  -- and for any table
  asks : Asks begun.args.set there begun.args.run.blocks_left block onward
  asks =
      let a = begun.args in
      subst (λ (b : Block). Asks a.set there a.run.blocks_left b onward) words
      (subst (λ (f : Frame). Asks a.set f a.run.blocks_left reading.words_of-b.result onward) asking.onto-there.ensures asking.onward_of-onward.ensures.1)

  -- the step came to d
  abbrev Came : Opened → Type 0
  Came d = let a = begun.args in OpenMeets a.tape.now a.table.now a.set a.places.now a.count a.room a.frame a.run d

-- ---- where that is no alarm; that it is none is read off by `omega` below, so that a condition that is another leaves it without a proof
module _ (k : tie.After-alarm_by-asked) (zero : k.alarm_by-asked.result ≡ 0) where
  fine : alarm_by (onward k) ≡ 0
  fine = sym k.alarm_by-asked.ensures ∙ zero

  some : 0 < (begun k).args.run.blocks_left
  some = let a = (begun k).args in asks_some a.set (there k) a.run.blocks_left (block k) (onward k) (asks k) fine

words_of_requires : tie.Need-words_of-b-requires
words_of_requires c κs = let s = c in behind_number s.args.tape.now s.requires.1

judge_block_requires : tie.Need-judge_block-verdict-requires
judge_block_requires c κs =
    let k = c in
    let n = (begun k.before.before.before).requires.0 in
    (n.offsets, n.range, n.state, subst Worded (sym (reading k.before.before.before).words_of-b.ensures) (worded_in _))

origin_of_requires : tie.Need-origin_of-origin-requires
origin_of_requires c κs = (begun c.before.before.before.before.before).requires.1.known.small

open_going_requires : tie.Need-open_going-requires
unfolding going_of
open_going_requires c κs =
    let zero : c.alarm_by-asked.result ≡ 0 = omega arith in
    let m = c in
    let j = m in
    let e = j in
    let k = e in
    let s = begun k.before.before.before.before.before.before in
    let a = s.args in
    let b = (reading k.before.before.before.before.before.before).words_of-b.result in
    let left = a.room - a.run.count in
    let w = went a.table.now a.set a.run.state b left m.in-Goes.going (sym j.judge_block-verdict.ensures.0 ∙ m.in-Goes.is) in
    let few = done_few a.table.now a.set a.run.state b left w.well in (
      subst (λ (x : Going). Right x.deed) (sym w.is) (right_in a.table.now a.set a.run.state b left w.well),
      subst Known m.in-Goes.is j.judge_block-verdict.ensures.1,
      subst (λ (x : Going). x.count ≡ length (doing x.deed)) (sym w.is) (counted_in a.table.now a.set a.run.state b left w.well),
      some k.before.before.before.before.before.before zero,
      omega (arith, few, ap length (going_records a.table.now a.set a.run.state b w.is), s.requires.0.few, s.requires.0.limit),
    )

returns_2 : tie.Need-returns-in-Refused
returns_2 c =
    let zero : c.alarm_by-asked.result ≡ 0 = omega arith in
    let m = c in
    let j = m in
    let e = j in
    let k = e in
    let s = begun k.before.before.before.before.before.before in
    let a = s.args in
    let left = a.room - a.run.count in
    let w = was_refused a.table.now a.set a.run.state (block k.before.before.before.before.before.before) left m.in-Refused.alarm
    (sym (j.judge_block-verdict.ensures.0 ∙ ap (λ (b : Block). verdict_of a.table.now a.set a.run.state b left) (words k.before.before.before.before.before.before)) ∙ m.in-Refused.is) in
    subst (Came k.before.before.before.before.before.before) (sym c.refused-in-Refused.ensures)
    (refused_own a.tape.now a.table.now a.set a.places.now a.count a.room a.frame a.run s.requires.0 a.line.at s.requires.1.first (asked k.before.before.before.before.before.before)
    (same_after a.tape.now s.requires.1) s.requires.1.known.ends (fine k.before.before.before.before.before.before zero) w.is (λ z. w.some (sym w.is ∙ z)))

returns_3 : tie.Need-returns-in-Goes
returns_3 c =
    let zero : c.alarm_by-asked.result ≡ 0 = omega arith in
    let o = c in
    let m = o in
    let j = m in
    let e = j in
    let k = e in
    let s = begun k.before.before.before.before.before.before.before in
    let a = s.args in
    let b = (reading k.before.before.before.before.before.before.before).words_of-b.result in
    let left = a.room - a.run.count in
    let w = went a.table.now a.set a.run.state b left m.in-Goes.going (sym j.judge_block-verdict.ensures.0 ∙ m.in-Goes.is) in
    let records = going_records a.table.now a.set a.run.state b w.is ∙ ap (done_records a.table.now a.set a.run.state) (words k.before.before.before.before.before.before.before) in
    let state = going_state a.table.now a.set a.run.state b w.is ∙ ap (done_state a.table.now a.set a.run.state) (words k.before.before.before.before.before.before.before) in
    let g = c.open_going.ensures in
    gone a.tape.now a.table.now a.set a.places.now a.count a.room a.frame a.run s.requires.0 a.line.at s.requires.1.first (asked k.before.before.before.before.before.before.before)
    (same_after a.tape.now s.requires.1) s.requires.1.known.ends (fine k.before.before.before.before.before.before.before zero) (some k.before.before.before.before.before.before.before zero) (asks_stops a.set (there k.before.before.before.before.before.before.before) a.run.blocks_left (block k.before.before.before.before.before.before.before) (onward k.before.before.before.before.before.before.before) (asks k.before.before.before.before.before.before.before))
    (sym (ap (λ (b : Block). alarm_in a.table.now a.set a.run.state b left) (words k.before.before.before.before.before.before.before)) ∙ w.well)
    c.open_going.result o.origin_of-origin.result
    (g.came ∙ (λ i. went_by (onward k.before.before.before.before.before.before.before) (state i) a.run (a.run.count + length (records i)) a.line.after))
    (g.has ∙ ap (λ (v : List Record). stamped o.origin_of-origin.result v) records) g.held
    (λ first here. o.origin_of-origin.ensures ∙ same_origin_lem a.tape.now s.requires.1 a.frame (program_small a.frame.program.number (lines a.tape.now first) a.frame.program.line here))

pub open_words_spec : {M : Type 1} → statement M
open_words_spec =
    tie.close
    (tie.spec
    (λ c. search rules)
    (λ c. search rules)
    (λ c. search rules)
    words_of_requires
    (λ c κs. search rules)
    (λ c κs. search rules)
    (λ c κs. search rules)
    (λ c κs. search rules)
    (λ c.
    let alarm : c.alarm_by-asked.result ≡ 0 → ⊥ = grind arith in
    let s = begun c.before.before in
    let a = s.args in
    subst (Came c.before.before) (sym c.refused.ensures)
    (refused_asked a.tape.now a.table.now a.set a.places.now a.count a.room a.frame a.run s.requires.0 a.line.at s.requires.1.first (asked c.before.before)
    (same_after a.tape.now s.requires.1) s.requires.1.known.ends c.alarm_by-asked.ensures alarm))
    (λ c. search rules)
    (λ c. search rules)
    judge_block_requires
    (λ c. search rules)
    (λ c κs. search rules)
    (λ c. search rules)
    origin_of_requires
    open_going_requires
    returns_2
    returns_3)
