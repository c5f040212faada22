-- A block that is opened has its records.
-- Assumes nothing.
use mathlib.Core.Path.{◌≡◌, refl, sym, ap, ◌∙◌}
use mathlib.Core.Bool.{Bool}
use mathlib.Core.List.{List, [], ◌++◌, append_assoc}
use Prim.Native.Nat.{ℕ}
use Rattle.moves.specs.Kinds.{tool, miscellaneous, speed}
use Rattle.moves.specs.declared.Record.{Record}
use Rattle.block.specs.Slots.{has, s_slot, t_slot, spindle_slot, coolant_slot}
use Rattle.block.specs.declared.Block.{Block}
use Rattle.state.specs.declared.State.{State}
use Rattle.passes.specs.Cursor as turn
use Rattle.threads.specs.Cursor as thread
use Rattle.plunges.specs.Cursor as groove
use Rattle.bores.specs.Cursor as drill
use Rattle.asking.specs.Judge.{doing}
use Rattle.deeds.specs.declared.Deed.{Deed}
use Rattle.deeds.specs.declared.Deed.TheVariants as deed
use Rattle.writing.specs.Writes.{one_if, speed_of, tool_of, m_of, speed_and_tool, spindle_and_coolant, done, stops, stopping, writes}
use Rattle.stages.specs.Cursor.{single_of, behind_deed, from_centre, from_coolant, from_spindle, from_tool, from_speed, behind_at, rest_at, rest_from, deed_row, rest_of, stage_behind, Planned, Sound}
use Rattle.opening.specs.Opened.{own_in, own_row, Opens, OpensDeed, IsPlan}
use Rattle.stages.specs.declared.Stage.{Stage}
use Rattle.stages.specs.declared.Stage.TheVariants as stage
use Rattle.stages.specs.declared.Due.{Due}
use Rattle.stages.specs.declared.Due.TheVariants.{Turning, Threading, Grooving, Drilling, Single}
use Rattle.stages.specs.declared.Own.{Own}
use Rattle.stages.specs.declared.Plan.{Plan}
use Rattle.stages.proofs.Cursors.{behind_due}

-- ---- a cycle that is opened
pub turning_opens : {v : List Record} {c : _} → turn.rest_of c ≡ v → turn.Sound c → Opens v (Turning c)
unfolding rest_from
turning_opens e s = record { same = λ p l. ap (λ (w : List Record). w ++ behind_deed p) e; sound = s }

pub threading_opens : {v : List Record} {c : _} → thread.rest_of c ≡ v → thread.Sound c → Opens v (Threading c)
unfolding rest_from
threading_opens e s = record { same = λ p l. ap (λ (w : List Record). w ++ behind_deed p) e; sound = s }

pub grooving_opens : {v : List Record} {c : _} → groove.rest_of c ≡ v → groove.Sound c → Opens v (Grooving c)
unfolding rest_from
grooving_opens e s = record { same = λ p l. ap (λ (w : List Record). w ++ behind_deed p) e; sound = s }

pub drilling_opens : {v : List Record} {c : _} → drill.rest_of c ≡ v → drill.Sound c → Opens v (Drilling c)
unfolding rest_from
drilling_opens e s = record { same = λ p l. ap (λ (w : List Record). w ++ behind_deed p) e; sound = s }

-- ---- the deed d, matched to e
module _ {d e : Deed} (is : d ≡ e) {stops : Bool} where
  -- one that has no record
  pub none_due : {k : Stage} → doing e ≡ [] → k ≡ stage_behind stops → OpensDeed d stops (Single k)
  unfolding rest_from
  none_due h k = record {
    same = λ p l g t. ap (rest_at p l) k ∙ behind_due p l stops t ∙ ap (λ (v : List Record). v ++ behind_deed p) (sym h ∙ ap doing (sym is));
    sound = tt;
  }

  -- one that has its own, and is no cycle
  pub own_due : doing e ≡ own_row (own_in e) → OpensDeed d stops (Single stage.Deed)
  unfolding rest_from rest_at behind_at single_of from_centre
  own_due h = record {
    same = λ p l g t. ap (λ (o : Own). own_row o ++ behind_deed p) (g ∙ ap own_in is) ∙ ap (λ (v : List Record). v ++ behind_deed p) (sym h ∙ ap doing (sym is));
    sound = tt;
  }

  -- a cycle
  pub cycle_due : {r : Due} (v : List Record) → doing e ≡ v → Opens v r → OpensDeed d stops r
  cycle_due v h o = record {
    same = λ p l g t. o.same p l ∙ ap (λ (w : List Record). w ++ behind_deed p) (sym h ∙ ap doing (sym is));
    sound = o.sound;
  }

-- ---- a plan for a block
module _ {s : State} {b : Block} {d : Deed} {p : Plan} (is : IsPlan s b d p) where
  stopped : behind_deed p ≡ stopping (done s d) b
  unfolding behind_deed stopping single_of m_of
  stopped = λ i. one_if (is.stops i) (miscellaneous (is.x_behind i) (is.z_behind i) (is.stop i))

  row : (l : List Record) → rest_from p l p.deed ≡ doing d ++ stopping (done s d) b
  row l = is.deed.same p l is.own refl ∙ ap (λ (v : List Record). doing d ++ v) stopped

  deed_is : deed_row p ≡ doing d ++ stopping (done s d) b
  unfolding deed_row
  deed_is = row []

  pub planned : Planned p
  planned = record { deed = is.deed.sound; later = λ l. row l ∙ sym deed_is }

  pub all_due : {t : Bool} → t ≡ has b s_slot → from_speed p t (deed_row p) ≡ writes s b d
  unfolding from_speed from_tool from_spindle from_coolant single_of writes speed_and_tool spindle_and_coolant speed_of tool_of m_of
  all_due {t} e =
      let m : ℕ → Record = λ (k : ℕ). m_of s b k in
      let last = doing d ++ stopping (done s d) b in
      let one = one_if (has b s_slot) (speed_of s b) in
      let two = one_if (has b t_slot) (tool_of s b) in
      let three = one_if (has b spindle_slot) (m spindle_slot) in
      let four = one_if (has b coolant_slot) (m coolant_slot) in
      let same : from_speed p t (deed_row p) ≡ one ++ (two ++ (three ++ (four ++ last)))
      = λ i. one_if (e i) (speed (is.x i) (is.z i) (is.speed i) (is.g96 i)) ++ (one_if (is.has_tool i) (tool (is.x i) (is.z i) (is.tool i))
      ++ (one_if (is.has_spindle i) (miscellaneous (is.x i) (is.z i) (is.spindle i)) ++ (one_if (is.has_coolant i) (miscellaneous (is.x i) (is.z i) (is.coolant i)) ++ deed_is i)))
      in
      same ∙ sym (append_assoc one two ((three ++ four) ++ last) ∙ ap (λ (l : List Record). one ++ (two ++ l)) (append_assoc three four last))
