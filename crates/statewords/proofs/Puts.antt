-- What is in hand, and where the run goes on, where a part of the state is laid.
-- Assumes nothing.
use mathlib.Core.Path.{◌≡◌, ap, ◌∙◌}
use mathlib.Core.Bool.{Bool, true, false, cond}
use mathlib.Core.List.{List}
use Prim.Native.Nat.{ℕ, ◌+◌, ◌-◌}
use native.Mathlib.Omega.{arith}
use lib.ListN.{length}
use borrow.Rule.Slice.PartMut.{put_mid}
use Rattle.octets.specs.Bytes.{laid}
use Rattle.octets.proofs.Laying.{length_laid}
use Rattle.moves.specs.declared.Origin.{Origin}
use Rattle.planwords.specs.of_stages.declared.Due.{Due}
use Rattle.planwords.specs.of_stages.declared.Plan.{Plan}
use Rattle.planwords.specs.of_resumable.Kept.{kept, with_deed}
use Rattle.cyclewords.specs.Sizes.{due_words}
use Rattle.handwords.specs.Due.{is_empty, slot_of, due_by}
use Rattle.planwords.specs.Plan.{plan_words, plan_of, origin_of}
use Rattle.runlaid.specs.of_runwords.Taken.{going_words, going_of}
use Rattle.runlaid.specs.of_taking.declared.Hand.{Hand}
use Rattle.runlaid.specs.of_taking.declared.Hand.TheVariants.{Nothing, Block}
use Rattle.runlaid.specs.of_paused.declared.Going.{Going}
use Rattle.statewords.specs.State.{state_words, due_in, plan_in, going_in, is_empty_in, hand_from, hand_in, run_in, hand_kept, PutMeets}
use Rattle.statewords.proofs.Parts.{Parts, due_laid, plan_laid, going_laid, going_lent}

-- ---- what is in hand, by its two parts
abbrev pub hand_by : List ℕ → List ℕ → Hand
hand_by d p = cond (is_empty d) Nothing (hand_from p (slot_of d) (due_by d (slot_of d)))

by_parts : {d p g v : List ℕ} → Parts d p g v → hand_in v ≡ hand_by d p
unfolding hand_in
by_parts s i = hand_by (s.due i) (s.plan i)

run_by : {d p g v : List ℕ} → Parts d p g v → run_in v ≡ going_of g
unfolding run_in
run_by s = ap going_of s.going

pub whose : (w : List ℕ) → is_empty_in w ≡ false → hand_in w ≡ hand_from (plan_in w) (slot_of (due_in w)) (due_by (due_in w) (slot_of (due_in w)))
unfolding hand_in
whose w e =
    let d = due_in w in
    ap (λ (b : Bool). cond b Nothing (hand_from (plan_in w) (slot_of d) (due_by d (slot_of d)))) e

-- ---- another thing is put into the hand
due_put : (w d : List ℕ) (h : Hand) → length w ≡ state_words → length d ≡ due_words → hand_by d (plan_in w) ≡ h → PutMeets w h (laid w 0 d)
unfolding run_in
due_put w d h l e is =
    let s = due_laid w d l e in
    record { hand = by_parts s ∙ is; run = run_by s; long = length_laid w 0 d (omega arith) ∙ l }

pub nothing_put : {v : List ℕ} (w d : List ℕ) → length w ≡ state_words → length d ≡ due_words → is_empty d ≡ true → v ≡ laid w 0 d → PutMeets w Nothing v
nothing_put w d l e none is = rw (is) (due_put w d Nothing l e (ap (λ (b : Bool). cond b Nothing (hand_from (plan_in w) (slot_of d) (due_by d (slot_of d)))) none))

-- the words of what is due, as `handwords` makes them
abbrev pub DueWords : List ℕ → Due → Due → Type 0
DueWords d deed due = (slot_of d ≡ kept deed due) × (due_by d (kept deed due) ≡ due) × (is_empty d ≡ false)

pub due_is_put : {v : List ℕ} (w d : List ℕ) (deed due : Due) → length w ≡ state_words → length d ≡ due_words → DueWords d deed due → v ≡ laid w 0 d
    → PutMeets w (hand_from (plan_in w) (kept deed due) due) v
due_is_put w d deed due l e f is =
    let p = plan_in w in
    let slot = ap (λ (s : Due). hand_from p s (due_by d s)) f.0 ∙ ap (hand_from p (kept deed due)) f.1 in
    rw (is) (due_put w d _ l e (ap (λ (b : Bool). cond b Nothing (hand_from p (slot_of d) (due_by d (slot_of d)))) f.2 ∙ slot))

-- what is due behind a plan that was put
pub hand_put : {m v : List ℕ} (w p : List ℕ) (plan : Plan) (due : Due) (o : Origin) → length w ≡ state_words → length p ≡ plan_words
    → ((d : Due) → plan_of p d ≡ with_deed plan d) × (origin_of p ≡ o) → m ≡ laid w due_words p → PutMeets m (hand_from (plan_in m) (kept plan.deed due) due) v
    → PutMeets w (hand_kept plan due o) v
unfolding run_in
hand_put {m} w p plan due o l e f is q =
    let s : Parts (due_in w) p (going_in w) m = rw (is) (plan_laid w p l e) in
    let k = kept plan.deed due in
    record {
      hand = q.hand ∙ ap (λ (x : List ℕ). hand_from x k due) s.plan ∙ (λ i. Block (record { plan = f.0 k i; due = due }) (f.1 i));
      run = q.run ∙ run_by s;
      long = q.long;
    }

-- ---- the run is put
pub run_put : (w g : List ℕ) (r : Going) → length w ≡ state_words → going_of g ≡ r → length g ≡ going_words
    → let v = put_mid (due_words + plan_words) (length w - (due_words + plan_words)) w g in (run_in v ≡ r) × (hand_in v ≡ hand_in w) × (length v ≡ state_words)
unfolding hand_in
run_put w g r l back e =
    let s = going_laid w g l e in
    rw (going_lent w g l e) (run_by s ∙ back, by_parts s, length_laid w (due_words + plan_words) g (omega arith) ∙ l)
