-- What is put into the words of a block that is in hand: the same records are left, and it can be asked for them.
-- Assumes nothing.
use mathlib.Core.Path.{◌≡◌, refl, sym, ap, subst, ◌∙◌}
use mathlib.Core.List.{List, ◌∷◌}
use Prim.Native.Nat.{ℕ}
use lib.ListN.{length}
use Rattle.octets.specs.Bytes.{laid}
use Rattle.moves.specs.Form.{stamped, record_bytes}
use Rattle.moves.specs.declared.Origin.{Origin}
use Rattle.moves.specs.declared.Listed.{Listed}
use Rattle.packing.specs.of_stages.Cursor.{over, Sound}
use Rattle.packing.specs.of_stages.declared.Stage.TheVariants.{Speed, Tool, Spindle, Coolant, Deed, Centre, Stop, Over}
use Rattle.packing.specs.of_stages.declared.Due.{Due}
use Rattle.packing.specs.of_stages.declared.Due.TheVariants.{Turning, Threading, Grooving, Drilling, Single}
use Rattle.packing.specs.of_stages.declared.Plan.{Plan}
use Rattle.packing.specs.of_stages.declared.Cursor.{Cursor}
use Rattle.inhand.specs.of_resumable.Kept.{kept, with_deed, Fits}
use Rattle.inhand.proofs.of_resumable.Kept.{same_rest, kept_fits, own, whole_deed}
use Rattle.packing.specs.of_taking.declared.Hand.{Hand}
use Rattle.packing.specs.of_taking.declared.Hand.TheVariants.{Nothing, Block}
use Rattle.packing.specs.of_taking.Hands.{in_hand}
use Rattle.stepping.specs.of_holding.Held.{Held}
use Rattle.inhand.specs.State.{state_words, hand_in, run_in, hand_kept, PutMeets}
use Rattle.packing.specs.of_answers.declared.Answer.{Answer}
use Rattle.runbounds.specs.of_paused.declared.Phase.{Phase}
use Rattle.runbounds.specs.of_paused.declared.Phase.TheVariants as phase
use Rattle.stepping.specs.Meets.{Stands}
use Rattle.stepping.specs.declared.Turned.{Turned}
use Rattle.packing.specs.declared.Told.TheVariants as told
use Rattle.onemove.specs.OneMove.{OneGiven, FirstMeets}

-- a plan with what is kept of its deed is as sound
sound_kept : (p : Plan) (d : Due) → Fits (kept p.deed d) → Sound (with_deed p (kept p.deed d)) d
sound_kept p (Turning c) f = own p (Turning c) f
sound_kept p (Threading c) f = own p (Threading c) f
sound_kept p (Grooving c) f = own p (Grooving c) f
sound_kept p (Drilling c) f = own p (Drilling c) f
sound_kept p (Single Speed) f = whole_deed p p.deed (Single Speed) f refl
sound_kept p (Single Tool) f = whole_deed p p.deed (Single Tool) f refl
sound_kept p (Single Spindle) f = whole_deed p p.deed (Single Spindle) f refl
sound_kept p (Single Coolant) f = whole_deed p p.deed (Single Coolant) f refl
sound_kept p (Single Deed) f = own p (Single Deed) f
sound_kept p (Single Centre) f = own p (Single Centre) f
sound_kept p (Single Stop) f = own p (Single Stop) f
sound_kept p (Single Over) f = own p (Single Over) f

-- and it is over where the plan is: the deed is not asked for
over_kept : (p : Plan) (s d : Due) → over (with_deed p s) d ≡ over p d
over_kept p s (Turning c) = refl
over_kept p s (Threading c) = refl
over_kept p s (Grooving c) = refl
over_kept p s (Drilling c) = refl
over_kept p s (Single k) = refl

kept_hand : (c : Cursor) (o : Origin) → in_hand (hand_kept c.plan c.due o) ≡ in_hand (Block c o)
unfolding in_hand
kept_hand c o = ap (stamped o) (same_rest c.plan c.due)

kept_held : (c : Cursor) (o : Origin) → Held (Block c o) → Held (hand_kept c.plan c.due o)
kept_held c o h =
    record {
      sound = sound_kept c.plan c.due (kept_fits c.plan c.due h.sound);
      some = over_kept c.plan (kept c.plan.deed c.due) c.due ∙ h.some;
    }

-- ---- a record, and what is left
module _ (h : Hand) (w b : List ℕ) (l : Listed) (rest : Hand) (first : in_hand h ≡ l ∷ in_hand rest) (held : Held rest) (v c : List ℕ) (bytes : c ≡ laid b 0 (record_bytes l)) where
  pub one_last : rest ≡ Nothing → PutMeets w Nothing v → OneGiven h w b v c
  one_last is p =
      let e : hand_in v ≡ rest = p.hand ∙ sym is in
      record { listed = l; first = first ∙ ap (λ (x : Hand). l ∷ in_hand x) (sym e); held = subst Held (sym e) held; bytes = bytes; run = p.run; long = p.long }

  pub one_more : (k : Cursor) (o : Origin) → rest ≡ Block k o → PutMeets w (hand_kept k.plan k.due o) v → OneGiven h w b v c
  one_more k o is p =
      record {
        listed = l;
        first = first ∙ ap (λ (x : List Listed). l ∷ x) (ap in_hand is ∙ sym (kept_hand k o) ∙ ap in_hand (sym p.hand));
        held = subst Held (sym p.hand) (kept_held k o (subst Held is held));
        bytes = bytes;
        run = p.run;
        long = p.long;
      }

-- ---- what some turns have come to
module _ (t : Turned) where
  pub first_move : (k : Cursor) (o : Origin) → t.hand ≡ Block k o → (u b v c : List ℕ) → run_in u ≡ t.going → OneGiven (Block k o) u b v c → FirstMeets t b told.Move v c
  first_move k o is u b v c e g =
      record { run = g.run ∙ e; long = g.long; held = g.held; gives = record { listed = g.listed; first = ap in_hand is ∙ g.first; bytes = g.bytes } }

  pub first_over : t.hand ≡ Nothing → (a : Answer) → t.going.phase ≡ phase.Over a → (w u b : List ℕ) → hand_in w ≡ Nothing → run_in u ≡ t.going → hand_in u ≡ hand_in w → length u ≡ state_words
      → FirstMeets t b (told.Over a) u b
  first_over is a over w u b none run same long =
      record { run = run; long = long; held = subst Held (sym (same ∙ none)) (record { sound = tt; some = tt }); gives = (is, over, same ∙ none, refl) }

  pub never_running : t.hand ≡ Nothing → t.going.phase ≡ phase.Running → Stands t.hand t.going.phase → ⊥
  never_running e f s = subst (λ (p : Phase). Stands Nothing p) f (subst (λ (h : Hand). Stands h t.going.phase) e s)
