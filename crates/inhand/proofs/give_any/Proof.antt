-- `inhand::give_any` meets its contract.
use borrow.Author.Rules.{rules}
use borrow.Author.Tests.{not-true, not-false}
use mathlib.Core.Path.{◌≡◌, sym, ◌∙◌}
use lib.ListN.{length}
use Rattle.telling.proofs.Tells.{never}
use Rattle.cyclehand.specs.of_resumable.Kept.{Fits}
use Rattle.cyclewords.specs.Sizes.{due_words}
use Rattle.statewords.proofs.Parts.{length_due}
use Rattle.inhand.specs.State.{due_in}
use Rattle.inhand.proofs.Giving.{Read, read_sound, unfit, none_left, last, more}
use Rattle.inhand.proofs.give_any.Statement.{statement}
use Rattle.inhand.proofs.give_any.Tie as tie

-- the words of what is due are as many as they take
front : (s : tie.Start) → length (due_in s.args.state.now) ≡ due_words
front s = length_due s.args.state.now s.requires.0

-- what was read of the words
abbrev start : tie.After-origin_of-origin → tie.Start
start n = n.before.before.before.before.before.before.before.before.before

read_of : (n : tie.After-origin_of-origin) → Read (start n).args.state.now n.slot_of-slot.result n.due_of-due.result n.plan_of-plan.result n.origin_of-origin.result
read_of n =
    let plan = n in
    let due = plan in
    let slot = due in
    record { slot = slot.slot_of-slot.ensures; due = due.due_of-due.ensures; plan = plan.plan_of-plan.ensures; origin = n.origin_of-origin.ensures }

fits : (n : tie.After-origin_of-origin) → Fits n.slot_of-slot.result
fits n =
    let tested = n in
    tested.is_fit.ensures.0 tested.if-not-is_fit.false

abbrev origin_at_lem : tie.After-is_over-2 → tie.After-origin_of-origin
origin_at_lem c = c.before.before.before.before.before.before.before.before.before

slice_aggregate_part : tie.Need-slice_bounds-part-end-2
slice_aggregate_part c = sym (front c.before.before)

slot_of_requires : tie.Need-slot_of-slot-requires
slot_of_requires c κs = front c.before.before

returns : tie.Need-returns-then-not-is_fit
returns c =
    let fit = c in
    let slot = fit in
    let s = slot in
    unfit s.args.state.now s.args.«record».now s.requires.1 slot.slot_of-slot.result slot.slot_of-slot.ensures
    (λ f. never (sym c.if-not-is_fit.true ∙ fit.is_fit.ensures.1 f))

due_of_requires : tie.Need-due_of-due-requires
due_of_requires c κs = front c.before.before.before.before.before

returns_2 : tie.Need-returns-then-is_over
returns_2 c =
    let n = c in
    let s = start n.before.before in
    none_left s.args.state.now s.args.«record».now s.requires.1 (read_of n.before.before) (sym c.is_over.ensures ∙ c.if-is_over.true)

next_requires : tie.Need-next-handed-requires
next_requires c κs =
    let n = c in
    (read_sound (read_of n.before.before) (fits n.before.before), sym c.is_over.ensures ∙ c.if-is_over.false)

put_record_requires : tie.Need-put_record-requires
put_record_requires c κs = (start c.before.before.before.before.before).requires.2

put_nothing_requires : tie.Need-put_nothing-requires
put_nothing_requires c κs = (start (origin_at_lem c.before.before)).requires.0

returns_3 : tie.Need-returns-then-is_over-2
returns_3 c =
    let put = c in
    let branch = put in
    let over = branch in
    let laid = over in
    let next = laid in
    let n = next in
    let s = start n.before.before.before.before.before.before.before.before.before.before.before.before.before.before in
    last s.args.state.now s.args.«record».now s.requires.1 (read_of n.before.before.before.before.before.before.before.before.before.before.before.before.before.before) _ _ next.next-handed.ensures (read_sound (read_of n.before.before.before.before.before.before.before.before.before.before.before.before.before.before) (fits n.before.before.before.before.before.before.before.before.before.before.before.before.before.before)) (sym next.is_over.ensures ∙ next.if-is_over.false) (sym over.is_over-2.ensures ∙ branch.if-is_over-2.true)
    put.put_nothing.ensures laid.put_record.ensures

put_due_requires : tie.Need-put_due-requires
put_due_requires c κs = (start (origin_at_lem c.before.before)).requires.0

returns_4 : tie.Need-returns
returns_4 c =
    let put = c in
    let branch = put in
    let over = branch in
    let laid = over in
    let next = laid in
    let n = next in
    let s = start n.before.before.before.before.before.before.before.before.before.before.before.before.before.before in
    more s.args.state.now s.args.«record».now s.requires.1 (read_of n.before.before.before.before.before.before.before.before.before.before.before.before.before.before) _ _ next.next-handed.ensures (read_sound (read_of n.before.before.before.before.before.before.before.before.before.before.before.before.before.before) (fits n.before.before.before.before.before.before.before.before.before.before.before.before.before.before)) (sym next.is_over.ensures ∙ next.if-is_over.false) (sym over.is_over-2.ensures ∙ branch.if-is_over-2.false)
    put.put_due.ensures laid.put_record.ensures

pub give_any_spec : {M : Type 1} → statement M
give_any_spec =
    tie.close
    (tie.spec
    (λ c. search rules)
    slice_aggregate_part
    slot_of_requires
    (λ c κs. search rules)
    (λ c. search rules)
    returns
    due_of_requires
    (λ c. search rules)
    (λ c. search rules)
    (λ c. search rules)
    (λ c κs. search rules)
    (λ c κs. search rules)
    (λ c κs. search rules)
    (λ c. search rules)
    returns_2
    next_requires
    put_record_requires
    (λ c κs. search rules)
    put_nothing_requires
    (λ c. search rules)
    (λ c. search rules)
    returns_3
    put_due_requires
    (λ c. search rules)
    (λ c. search rules)
    returns_4)
