-- A step that is taken, and its records written behind those of the steps before it: what is known before it is known after it.
-- Assumes nothing.
use mathlib.Core.Path.{◌≡◌, refl, sym, ap, ◌∙◌}
use mathlib.Core.List.{List, [], ◌∷◌}
use Prim.Native.Nat.{ℕ, ◌+◌, ◌≤◌}
use native.Mathlib.Omega.{arith}
use lib.IntN.{ℤ}
use lib.ListN.{length}
use Rattle.octets.specs.Bytes.{laid}
use Rattle.octets.proofs.Laying.{laid_nil}
use Rattle.moves.specs.Form.{record_start, room_of, row_bytes, stamped}
use Rattle.moves.specs.declared.Record.{Record}
use Rattle.moves.specs.declared.Origin.{Origin}
use Rattle.moves.specs.declared.Listed.{Listed}
use Rattle.moves.proofs.Room.{room_few, room_fits}
use Rattle.settings.specs.declared.Settings.{Settings}
use Rattle.ahead.specs.declared.Frame.{Frame}
use Rattle.ahead.specs.declared.Onward.{Onward}
use Rattle.ahead.specs.declared.Onward.TheVariants.{On, Call, Jump, Return, End, Stop}
use Rattle.wording.specs.of_taking.declared.Run.{Run}
use Rattle.wording.specs.of_taking.declared.Hand.{Hand}
use Rattle.wording.specs.of_taking.declared.Hand.TheVariants.{Nothing}
use Rattle.wording.specs.of_taking.declared.Opened.{Opened}
use Rattle.wording.specs.of_taking.Steps.{Task, task_of, taken_from}
use Rattle.wording.specs.of_taking.Hands.{in_hand, Able, Falls, Stays, Leads, Lawful, OpenMeets}
use Rattle.steps.specs.Meets.{Needs, Goes, StepMeets}

-- what a step leaves, by where it goes on
falls_left : (w : Onward) (r s : Run) → Falls w r s → s.blocks_left ≤ r.blocks_left
falls_left On r s l = omega (arith, l)
falls_left (Call p times) r s l = omega (arith, l)
falls_left (Jump p) r s l = omega (arith, l)
falls_left Return r s l = omega (arith, l)
falls_left End r s l = omega (arith, l)
falls_left (Stop alarm place) r s l = l

no_records : (o : Origin) (v : List Record) → [] ≡ stamped o v → v ≡ []
unfolding stamped
no_records o [] e = refl
no_records o (x ∷ v) e = absurd (omega (arith, ap (λ (l : List Listed). length l) e))

empty_hand : (h : Hand) → h ≡ Nothing → [] ≡ in_hand h
unfolding in_hand
empty_hand h e = ap in_hand (sym e)

goes_of : (t : Task) (r s : Run) (h : Hand) (o : Origin) (v : List Record) (w : Onward) → Falls w r s → Stays w r s h → Leads t.tape t.first w → in_hand h ≡ stamped o v → Goes t r s v w
goes_of t r s h o v On l k q e = l
goes_of t r s h o v (Call p times) l k q e = (l, q)
goes_of t r s h o v (Jump p) l k q e = (l, q)
goes_of t r s h o v Return l k q e = tt
goes_of t r s h o v End l k q e = tt
goes_of t r s h o v (Stop alarm place) l k q e = no_records o v (empty_hand h k.1 ∙ e)

module _ (tape : List ℕ) (table : List ℤ) (set : Settings) (first : ℕ) (b places : List ℕ) (count : ℕ) (f : Frame) (r : Run) where
  abbrev t : Task
  t = task_of tape table set first (length b)

  module _ (n : Needs t (length b) places count f r) where
    -- all that the step without a buffer asks for
    pub able : Able tape table set places count (room_of (length b)) f r
    able = record { offsets = n.ready.table; range = n.ready.range; filled = n.ready.filled; limit = room_few (length b); state = n.fit.sound; few = n.fit.count; here = n.here }

    module _ (d : Opened) (m : OpenMeets tape table set places count (room_of (length b)) f r d) where
      lawful : Lawful t f r d
      lawful = m.lawful first n.ready.finds n.there

      -- the records in hand have room
      pub has_room : record_start (r.count + length (in_hand d.hand)) ≤ length b
      has_room = room_fits (length b) (r.count + length (in_hand d.hand)) n.ready.header (omega (arith, m.few, m.counted))

      -- and once they are written, the step is done
      pub step_meets : {e : List ℕ} → e ≡ laid b (record_start r.count) (row_bytes (in_hand d.hand)) → StepMeets t b f r d.done e
      step_meets h = record {
        done = lawful.done;
        wrote = record {
          buffer = h ∙ ap (λ (v : List Listed). laid b (record_start r.count) (row_bytes v)) lawful.hand;
          count = m.counted ∙ ap (λ (v : List Listed). r.count + length v) lawful.hand;
          fit = record { sound = m.state; count = m.few };
          left = falls_left d.done.onward r d.done.run m.left;
        };
        goes = goes_of t r d.done.run d.hand (taken_from t f r).step.origin (taken_from t f r).step.records d.done.onward m.left m.stays lawful.goes lawful.hand;
        after = m.after;
      }

      -- one that has none leaves the buffer as it came
      pub quiet_meets : d.hand ≡ Nothing → StepMeets t b f r d.done b
      unfolding in_hand row_bytes
      quiet_meets e = step_meets (sym (laid_nil b (record_start r.count)) ∙ ap (λ (h : Hand). laid b (record_start r.count) (row_bytes (in_hand h))) (sym e))
