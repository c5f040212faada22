-- `onemove::next` meets its contract.
use mathlib.Core.Path.{◌≡◌, sym, ap, subst, ◌∙◌}
use mathlib.Core.List.{List}
use native.Mathlib.Omega.{arith}
use Prim.Native.Nat.{ℕ}
use lib.ListN.{length, take}
use lib.Seq.{length-take-le}
use borrow.Author.Rules.{rules}
use borrow.Author.Tests.{not-true, not-false}
use Rattle.telling.proofs.Tells.{told_no}
use Rattle.runbounds.specs.of_runwords.Taken.{phase_of}
use Rattle.runbounds.specs.of_paused.Kept.{Answers}
use Rattle.packing.specs.of_taking.declared.Hand.TheVariants.{Nothing}
use Rattle.inhand.specs.State.{state_words, hand_in, run_in}
use Rattle.onemove.proofs.Asking.{to_end, empty_hand, run_phase, given_ask, not_given_ask, over_ask, unfitting_ask, next_other, next_short, next_asks}
use Rattle.onemove.proofs.next.Statement.{statement}
use Rattle.onemove.proofs.next.Tie as tie

returns : tie.Need-returns-then-state-ne-STATE_WORDS
returns c = let a = c.args in next_other a.tape.now a.table.now a.settings.now a.places.now a.state.now a.«record».now c.if-state-ne-STATE_WORDS.true

first_words : (w : List ℕ) → length w ≡ state_words → length (take 27 w) ≡ 27
first_words w e = length-take-le 27 w (omega (arith, e))

slice_aggregate_is_empty : tie.Need-slice_bounds-is_empty-end-2
slice_aggregate_is_empty c = sym (first_words c.args.state.now c.if-state-ne-STATE_WORDS.false)

is_empty_requires : tie.Need-is_empty-requires
is_empty_requires c κs = first_words c.args.state.now c.if-state-ne-STATE_WORDS.false

give_next_requires : tie.Need-give_next-requires
give_next_requires c κs =
    let t = c in
    let e = c in
    (e.if-state-ne-STATE_WORDS.false, sym t.is_empty.ensures ∙ t.if-not-is_empty.true, (omega arith))

returns_3 : tie.Need-returns-then-give_next
returns_3 c =
    let g = c.give_next in
    let e = c in
    let a = e.args in
    next_asks a.tape.now a.table.now a.settings.now a.places.now a.state.now a.«record».now e.if-state-ne-STATE_WORDS.false (omega arith) _ g.new.state g.new.record
    (given_ask a.tape.now a.table.now a.settings.now a.places.now a.state.now a.«record».now g.new.state g.new.record g.result e.if-state-ne-STATE_WORDS.false g.ensures c.if-give_next.true)

returns_4 : tie.Need-returns-then-not-is_empty
returns_4 c =
    let g = c.give_next in
    let e = c in
    let a = e.args in
    next_asks a.tape.now a.table.now a.settings.now a.places.now a.state.now a.«record».now e.if-state-ne-STATE_WORDS.false (omega arith) _ g.new.state g.new.record
    (not_given_ask a.tape.now a.table.now a.settings.now a.places.now a.state.now a.«record».now g.new.state g.new.record g.result g.ensures c.if-give_next.false)

-- nothing is in hand, and what the run has come to
module _ (k : tie.After-phase_of-phase) where
  none : hand_in k.args.state.now ≡ Nothing
  none = let t = k in empty_hand k.args.state.now (sym t.is_empty.ensures ∙ t.if-not-is_empty.false)

  is_phase : (run_in k.args.state.now).phase ≡ k.phase_of-phase.result
  is_phase = run_phase k.args.state.now ∙ sym (k.phase_of-phase.ensures ∙ ap phase_of (to_end k.args.state.now 54))

go_on_requires : tie.Need-go_on-requires
go_on_requires c κs =
    let k = c in
    (k.if-state-ne-STATE_WORDS.false, none k.before.before.before.before.before, is_phase k.before.before.before.before.before ∙ c.in-Running.is, (omega arith))

-- an answer with a place or a count of more than 16 bits
returns_5 : tie.Need-returns-then-not-is_fitting
returns_5 c =
    let k = c in
    let a = k.args in
    next_asks a.tape.now a.table.now a.settings.now a.places.now a.state.now a.«record».now k.if-state-ne-STATE_WORDS.false (omega arith) _ a.state.now a.«record».now
    (unfitting_ask a.tape.now a.table.now a.settings.now a.places.now a.state.now a.«record».now (none k.before.before) k.phase_of-phase.result (is_phase k.before.before)
    (told_no c.is_fitting.ensures c.if-not-is_fitting.true))

returns_6 : tie.Need-returns-in-Over
returns_6 c =
    let fits = c in
    let k = fits in
    let a = k.args in
    next_asks a.tape.now a.table.now a.settings.now a.places.now a.state.now a.«record».now k.if-state-ne-STATE_WORDS.false (omega arith) _ a.state.now a.«record».now
    (over_ask a.tape.now a.table.now a.settings.now a.places.now a.state.now a.«record».now (none k.before.before.before) c.in-Over.again (is_phase k.before.before.before ∙ c.in-Over.is)
    (subst Answers c.in-Over.is (fits.is_fitting.ensures.0 fits.if-not-is_fitting.false)))

returns_7 : tie.Need-returns-in-Running
returns_7 c =
    let g = c.go_on in
    let k = c in
    let a = k.args in
    next_asks a.tape.now a.table.now a.settings.now a.places.now a.state.now a.«record».now k.if-state-ne-STATE_WORDS.false (omega arith) g.result g.new.state g.new.record g.ensures

pub next_spec : {M : Type 1} → statement M
next_spec = tie.close (tie.spec returns (λ c. let a = c.args in next_short a.tape.now a.table.now a.settings.now a.places.now a.state.now a.«record».now (omega arith)) (λ c. search rules) slice_aggregate_is_empty is_empty_requires give_next_requires (λ c. search rules) (λ c. search rules) returns_3 (λ c. search rules) (λ c. search rules) returns_4 (λ c. search rules) (λ c. search rules) (λ c. search rules) (λ c κs. search rules) (λ c κs. search rules) (λ c. search rules) returns_5 (λ c. search rules) (λ c. search rules) go_on_requires (λ c. search rules) returns_6 (λ c. search rules) (λ c. search rules) returns_7)
