-- A record that is given of the block that the words hold.
-- Assumes nothing.
use mathlib.Core.Path.{◌≡◌, refl, sym, ap, subst, ◌∙◌}
use mathlib.Core.Bool.{Bool, true, false, cond}
use mathlib.Core.List.{List, ◌∷◌}
use Prim.Native.Nat.{ℕ}
use lib.Dec.{eqb}
use Rattle.octets.specs.Bytes.{laid}
use Rattle.telling.proofs.Tells.{never}
use Rattle.moves.specs.Form.{record_bytes, listed, stamped}
use Rattle.moves.specs.declared.Record.{Record}
use Rattle.moves.specs.declared.Origin.{Origin}
use Rattle.cyclehand.specs.of_stages.Cursor as cursor
use Rattle.cyclehand.specs.of_stages.declared.Stage.TheVariants.{Speed, Tool, Spindle, Coolant}
use Rattle.cyclehand.specs.of_stages.declared.Due.{Due}
use Rattle.cyclehand.specs.of_stages.declared.Due.TheVariants.{Turning, Threading, Grooving, Drilling, Single}
use Rattle.cyclehand.specs.of_stages.declared.Plan.{Plan}
use Rattle.cyclehand.specs.of_resumable.Kept.{kept, with_deed, Fits}
use Rattle.cyclehand.proofs.of_resumable.Kept.{planned, whole_deed, own, same_rest, kept_fits}
use Rattle.cells.specs.Numbers.{at}
use Rattle.cyclehand.specs.of_handwords.Due.{slot_of, due_by}
use Rattle.statewords.specs.of_planwords.Plan.{plan_of, origin_of}
use Rattle.holding.specs.of_taking.declared.Hand.{Hand}
use Rattle.holding.specs.of_taking.declared.Hand.TheVariants.{Nothing, Block}
use Rattle.holding.specs.of_taking.Hands.{in_hand}
use Rattle.holding.specs.Held.{Held}
use Rattle.holding.proofs.Handing.{taken_last, taken_more}
use Rattle.inhand.specs.State.{due_in, plan_in, is_empty_in, hand_from, hand_in, PutMeets, GiveMeets}
use Rattle.statewords.proofs.Puts.{whose}

-- ---- what is due by the words: a record of a word before the deed, or what is kept
either : (P : Due → Type 0) (a b c d : Bool) (slot : Due) → P (Single Speed) → P (Single Tool) → P (Single Spindle) → P (Single Coolant) → P slot
    → P (cond a (Single Speed) (cond b (Single Tool) (cond c (Single Spindle) (cond d (Single Coolant) slot))))
either P true b c d slot speed tool spindle coolant own = speed
either P false true c d slot speed tool spindle coolant own = tool
either P false false true d slot speed tool spindle coolant own = spindle
either P false false false true slot speed tool spindle coolant own = coolant
either P false false false false slot speed tool spindle coolant own = own

pub fit_sound : (p w : List ℕ) (slot : Due) → Fits slot → cursor.Sound (plan_of p slot) (due_by w slot)
unfolding plan_of due_by
fit_sound p w slot f =
    let q : Plan = plan_of p slot in
    let h : ℕ = at w 0 in
    either (cursor.Sound q) (eqb h 1) (eqb h 2) (eqb h 3) (eqb h 4) slot (whole_deed q slot (Single Speed) f refl) (whole_deed q slot (Single Tool) f refl) (whole_deed q slot (Single Spindle) f refl) (whole_deed q slot (Single Coolant) f refl) (own q slot f)

-- the deed of a plan fits
deed_fits : (q : Plan) → cursor.Planned q → Fits q.deed
deed_fits q s = kept_fits q (Single Speed) (record { plan = s; due = tt })

-- ---- a plan whose deed gives way to what is kept
kept_sound : (q : Plan) (d : Due) → cursor.Sound q d → cursor.Sound (with_deed q (kept q.deed d)) d
kept_sound q d s = record { plan = planned q (kept q.deed d) (kept_fits q d s); due = s.due }

same_over : (q : Plan) (k d : Due) → cursor.over (with_deed q k) d ≡ cursor.over q d
same_over q k (Turning c) = refl
same_over q k (Threading c) = refl
same_over q k (Grooving c) = refl
same_over q k (Drilling c) = refl
same_over q k (Single s) = refl

-- ---- the words hold a block
-- as it was read
pub record Read (w : List ℕ) (s d : Due) (p : Plan) (o : Origin) : Type 0 where
  pub slot : s ≡ slot_of (due_in w)
  pub due : d ≡ due_by (due_in w) s
  pub plan : p ≡ plan_of (plan_in w) s
  pub origin : o ≡ origin_of (plan_in w)

pub read_sound : {w : List ℕ} {slot due : Due} {plan : Plan} {o : Origin} → Read w slot due plan o → Fits slot → cursor.Sound plan due
read_sound {w} {slot} r f = rw (r.plan, r.due) (fit_sound (plan_in w) (due_in w) slot f)

module _ (w b : List ℕ) (some : is_empty_in w ≡ false) where
  -- no block that has a record
  refused : (Held (hand_in w) → ⊥) → GiveMeets w b false w b
  refused without = record { gives = λ e. absurd (never e); refuses = λ e. (refl, refl); right = λ h. absurd (without h); held = λ e. absurd (never e) }

  -- the deed of a plan that holds fits
  held_fits : Held (hand_in w) → Fits (slot_of (due_in w))
  unfolding plan_of
  held_fits h = deed_fits (plan_of (plan_in w) (slot_of (due_in w))) (subst Held (whose w some) h).sound.plan

  pub unfit : (slot : Due) → slot ≡ slot_of (due_in w) → (Fits slot → ⊥) → GiveMeets w b false w b
  unfit slot e never-fits = refused (λ h. never-fits (subst Fits (sym e) (held_fits h)))

  module _ {slot due : Due} {plan : Plan} {o : Origin} (r : Read w slot due plan o) where
    held_is : hand_in w ≡ Block (record { plan = plan; due = due }) o
    held_is =
        whose w some ∙ sym (ap (λ (s : Due). hand_from (plan_in w) s (due_by (due_in w) s)) r.slot)
        ∙ (λ i. Block (record { plan = sym r.plan i; due = sym r.due i }) (sym r.origin i))

    pub none_left : cursor.over plan due ≡ true → GiveMeets w b false w b
    none_left e = refused (λ h. never (sym (subst Held held_is h).some ∙ e))

    -- the next record
    module _ (made : Record) (behind : Due) (m : cursor.Makes plan due made behind) (sound : cursor.Sound plan due) (left : cursor.over plan due ≡ false) where
      given : {v c : List ℕ} (h : Hand) → in_hand (Block (record { plan = plan; due = due }) o) ≡ listed o made ∷ in_hand h → Held h → PutMeets w h v → c ≡ laid b 0 (record_bytes (listed o made))
          → GiveMeets w b true v c
      given h first held q is =
          record {
            gives = λ e.
                record {
                  listed = listed o made;
                  first = ap in_hand held_is ∙ first ∙ ap (λ (k : Hand). listed o made ∷ in_hand k) (sym q.hand);
                  held = subst Held (sym q.hand) held;
                  bytes = is;
                  run = q.run;
                  long = q.long;
                };
            refuses = λ e. absurd (never (sym e));
            right = λ h. refl;
            held = λ e. subst Held (sym held_is) (record { sound = sound; some = left });
          }

      pub last : {v c : List ℕ} → cursor.over plan behind ≡ true → PutMeets w Nothing v → c ≡ laid b 0 (record_bytes (listed o made)) → GiveMeets w b true v c
      last e = let t = taken_last (record { plan = plan; due = due }) o made behind m e in given Nothing t.0 t.1

      -- what is left, with what is kept in the place of the deed
      abbrev after : Hand
      after = hand_from (plan_in w) (kept slot behind) behind

      same_left : in_hand (Block (record { plan = plan; due = behind }) o) ≡ in_hand after
      unfolding plan_of in_hand
      same_left =
          (λ i. stamped (r.origin i) (cursor.rest_of (r.plan i) behind))
          ∙ ap (stamped (origin_of (plan_in w))) (sym (same_rest (plan_of (plan_in w) slot) behind))

      still_held : cursor.over plan behind ≡ false → Held after
      unfolding plan_of
      still_held e =
          let q : Plan = plan_of (plan_in w) slot in
          record {
            sound = kept_sound q behind (subst (λ (p : Plan). cursor.Sound p behind) r.plan m.sound);
            some = same_over q (kept slot behind) behind ∙ sym (ap (λ (p : Plan). cursor.over p behind) r.plan) ∙ e;
          }

      pub more : {v c : List ℕ} → cursor.over plan behind ≡ false → PutMeets w after v → c ≡ laid b 0 (record_bytes (listed o made)) → GiveMeets w b true v c
      more e =
          let t = taken_more (record { plan = plan; due = due }) o made behind m e in
          given after (t.0 ∙ ap (λ l. listed o made ∷ l) same_left) (still_held e)
