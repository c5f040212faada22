-- A record that is given of a cycle by its own path: what is told of the words of what is due, as told of the state.
-- Assumes nothing.
use mathlib.Core.Path.{◌≡◌, refl, sym, ap, subst, ◌∙◌}
use mathlib.Core.Bool.{Bool, true, false, not, ◌&&◌}
use mathlib.Core.List.{List, ◌++◌}
use Prim.Native.Nat.{ℕ, ◌+◌, ◌≤◌}
use native.Mathlib.Omega.{arith}
use lib.ListN.{length, drop, take-append-drop}
use Rattle.octets.specs.Bytes.{laid}
use borrow.Author.Tests.{not-true}
use Rattle.telling.proofs.Tells.{never}
use Rattle.moves.specs.Form.{record_size}
use Rattle.moves.specs.declared.Origin.{Origin}
use Rattle.cyclehand.specs.of_stages.Cursor as cursor
use Rattle.cyclehand.specs.of_stages.declared.Due.{Due}
use Rattle.cyclehand.specs.of_stages.declared.Due.TheVariants.{Turning, Threading, Grooving, Drilling, Single}
use Rattle.cyclehand.specs.of_stages.declared.Plan.{Plan}
use Rattle.cyclehand.specs.of_resumable.Kept.{is_lead, kept}
use Rattle.cyclewords.specs.Sizes.{due_words}
use Rattle.cyclehand.specs.of_handwords.Due.{is_deed, slot_of, due_by}
use Rattle.cyclehand.proofs.of_handwords.Slots.{deed_some, deed_due}
use Rattle.cyclehand.specs.of_passhand.declared.Gave.{Gave}
use Rattle.cyclehand.specs.of_passhand.declared.Gave.TheVariants.{Given, Unfit, Other}
use Rattle.cyclehand.specs.of_passhand.Gives.{is_cycle, has_next, has_next_in, Holds, Laid, Gives}
use Rattle.statewords.specs.of_planwords.Plan.{plan_of, origin_of}
use Rattle.inhand.specs.State.{state_words, due_in, plan_in, is_empty_in, GiveMeets}
use Rattle.statewords.proofs.Puts.{nothing_put, due_is_put}
use Rattle.inhand.proofs.Giving.{Read, read_sound, unfit, last, more}

-- ---- a cycle
both : (a b : Bool) → a && b ≡ true → (a ≡ true) × (b ≡ true)
both true b e = (refl, e)
both false b e = absurd (never e)

deeds : (d : Due) → is_cycle d ≡ true → is_lead d ≡ false
deeds (Turning c) e = refl
deeds (Threading c) e = refl
deeds (Grooving c) e = refl
deeds (Drilling c) e = refl
deeds (Single k) e = absurd (never e)

kept_own : (deed d : Due) → is_cycle d ≡ true → kept deed d ≡ d
kept_own deed (Turning c) e = refl
kept_own deed (Threading c) e = refl
kept_own deed (Grooving c) e = refl
kept_own deed (Drilling c) e = refl
kept_own deed (Single k) e = absurd (never e)

cycle_over_lem : (p : Plan) (d : Due) → is_cycle d ≡ true → cursor.over p d ≡ cursor.cycle_over d && not p.stops
cycle_over_lem p (Turning c) e = refl
cycle_over_lem p (Threading c) e = refl
cycle_over_lem p (Grooving c) e = refl
cycle_over_lem p (Drilling c) e = refl
cycle_over_lem p (Single k) e = absurd (never e)

-- ---- the words of what is due were lent, and came back
lent_due : (w d : List ℕ) → length d ≡ due_words → d ++ drop due_words w ≡ laid w 0 d
unfolding laid
lent_due w d e = let same : due_words ≡ 0 + length d = omega arith in ap (λ (n : ℕ). d ++ drop n w) same

-- ---- an ask of the words of what is due
-- with what was read of the plan, and what it came to
pub record Asked (w b : List ℕ) (r : Gave) (v c : List ℕ) : Type 0 where
  pub long : length w ≡ state_words
  pub some : is_empty_in w ≡ false
  pub origin : Origin
  pub stops : Bool
  pub from : origin ≡ origin_of (plan_in w)
  pub stop : (d : Due) → stops ≡ (plan_of (plan_in w) d).stops
  pub told : Gives (has_next_in (due_in w)) (slot_of (due_in w)) origin stops (due_in w) b r v c

told_as : {w b : List ℕ} {r k : Gave} {v c : List ℕ} (a : Asked w b r v c) → r ≡ k → Gives (has_next_in (due_in w)) (slot_of (due_in w)) a.origin a.stops (due_in w) b k v c
told_as {w} {b} {r} {k} {v} {c} a is = subst (λ (x : Gave). Gives (has_next_in (due_in w)) (slot_of (due_in w)) a.origin a.stops (due_in w) b x v c) is a.told

-- a record of a cycle was given
module _ {w b : List ℕ} {r : Gave} {v c : List ℕ} (a : Asked w b r v c) (is : r ≡ Given) where
  abbrev slot : Due
  slot = slot_of (due_in w)

  abbrev plan : Plan
  plan = plan_of (plan_in w) slot

  abbrev got : Laid slot a.origin a.stops b v c
  got = (told_as a is).2

  deed : is_deed (due_in w) ≡ true
  deed = (both (is_deed (due_in w)) (has_next slot) (told_as a is).0).0

  cycle : is_cycle slot ≡ true
  cycle = (both (is_cycle slot) (not (cursor.cycle_over slot)) (both (is_deed (due_in w)) (has_next slot) (told_as a is).0).1).0

  -- the cycle is what is due
  read : Read w slot slot plan a.origin
  read = record { slot = refl; due = sym (deed_due (due_in w) slot deed); plan = refl; origin = a.from }

  sound : cursor.Sound plan slot
  sound = read_sound read (record { sound = (told_as a is).1; deeds = deeds slot cycle })

  makes : cursor.Makes plan slot got.made got.behind
  makes = got.makes plan sound

  -- a record of it is left
  left : cursor.over plan slot ≡ false
  left =
      let goes = (both (is_cycle slot) (not (cursor.cycle_over slot)) (both (is_deed (due_in w)) (has_next slot) (told_as a is).0).1).1 in
      cycle_over_lem plan slot cycle ∙ ap (λ (o : Bool). o && not plan.stops) (not-true (cursor.cycle_over slot) goes)

  by_over : (over : Bool) → cursor.over plan got.behind ≡ over → Holds over got.behind v → GiveMeets w b true (v ++ drop due_words w) c
  by_over true e none =
      last w b a.some read got.made got.behind makes sound left e (nothing_put w v a.long got.put.long none (lent_due w v got.put.long)) got.bytes
  by_over false e h =
      let own : kept slot got.behind ≡ got.behind = kept_own slot got.behind got.cycle in
      let due : due_by v (kept slot got.behind) ≡ got.behind = ap (due_by v) own ∙ deed_due v got.behind h.0 in
      more w b a.some read got.made got.behind makes sound left e
      (due_is_put w v slot got.behind a.long got.put.long (h.1 ∙ sym own, due, deed_some v h.0) (lent_due w v got.put.long))
      got.bytes

  pub cycle_gives : GiveMeets w b true (v ++ drop due_words w) c
  cycle_gives =
      by_over
      (cursor.cycle_over got.behind && not a.stops)
      (cycle_over_lem plan got.behind got.cycle ∙ ap (λ (s : Bool). cursor.cycle_over got.behind && not s) (sym (a.stop slot)))
      got.put.holds

-- nothing was done
same_state : {v : List ℕ} (w : List ℕ) → v ≡ due_in w → v ++ drop due_words w ≡ w
same_state w e = ap (λ (x : List ℕ). x ++ drop due_words w) e ∙ take-append-drop due_words w

pub cycle_refuses : {w b : List ℕ} {r : Gave} {v c : List ℕ} → Asked w b r v c → r ≡ Unfit → GiveMeets w b false (v ++ drop due_words w) c
cycle_refuses {w} {b} a is =
    let h = told_as a is in
    rw (same_state w h.2, h.3) (unfit w b a.some (slot_of (due_in w)) refl (λ f. h.1 f.sound))

module _ {w b : List ℕ} {r : Gave} {v c : List ℕ} (a : Asked w b r v c) (is : r ≡ Other) where
  pub any_asked : record_size ≤ length b → (length (v ++ drop due_words w) ≡ state_words) × (is_empty_in (v ++ drop due_words w) ≡ false) × (record_size ≤ length c)
  any_asked room = let h = told_as a is in rw (same_state w h.1, h.2) (a.long, a.some, room)

  pub any_gives : {k : Bool} {x y : List ℕ} → GiveMeets (v ++ drop due_words w) c k x y → GiveMeets w b k x y
  any_gives m = let h = told_as a is in rw (same_state w h.1, h.2) at m
