-- THE PROMISE OF A THREAD, of one block: the records of a G85 block that is done, all of them as they are written, keep it.
-- Assumes nothing.
use mathlib.Core.Path.{◌≡◌, refl, sym, ap, ◌∙◌, subst}
use mathlib.Core.Bool.{Bool, true, false}
use mathlib.Core.List.{List, [], ◌∷◌, ◌++◌, append_assoc}
use Prim.Native.Nat.{ℕ}
use lib.IntN.{ℤ}
use Rattle.moves.specs.declared.Record.{Record}
use Rattle.codes.specs.Codes.{g_code, threading_number}
use Rattle.codes.specs.declared.Motion.TheVariants as motion
use Rattle.block.specs.declared.Block.{Block}
use Rattle.block.specs.Slots.{has, s_slot, t_slot, spindle_slot, flow_slot, coolant_slot}
use Rattle.acts.specs.Acting.{motion_by}
use Rattle.acts.specs.declared.Kept.{Kept}
use Rattle.acts.specs.declared.Kept.TheVariants as kept
use Rattle.state.specs.Modal.{settled}
use Rattle.targets.specs.Target.{offset_of}
use Rattle.state.specs.declared.State.{State}
use Rattle.settings.specs.declared.Settings.{Settings}
use Rattle.threading.specs.declared.Thread.{Thread}
use Rattle.threading.specs.Threading.{threading}
use Rattle.threading.specs.Threaded.{Threaded, is_beside}
use Rattle.threading.proofs.Threaded.{threaded, AllBeside, threaded_between}
use Rattle.cycles.specs.declared.Cycle.TheVariants as cycle
use Rattle.deeds.specs.Deed.{move_of, deed_of}
use Rattle.deeds.specs.Known.{Right}
use Rattle.deeds.specs.declared.Deed.{Deed}
use Rattle.deeds.specs.declared.Deed.TheVariants as deed
use Rattle.scaling.proofs.Wanted.{is_thread_wanted}
use Rattle.asking.specs.Judge.{doing}
use Rattle.interpreter.specs.of_writing.Writes.{one_if, speed_of, tool_of, m_of, speed_and_tool, spindle_and_coolant, done, stops, stopping, writes}
use Rattle.interpreter.specs.of_verdicts.Verdicts.{sending_of, deed_in, alarm_in}
use Rattle.interpreter.proofs.of_verdicts.Passing.{right_in}
use Rattle.interpreter.specs.of_machine.Blocks.{done_records}
use Rattle.demands.specs.Opens.{opens_threading, thread_in}
use Rattle.demands.proofs.Opening.{motion_of_lem}

-- ---- the other records of a block are none of its motion
one_beside : (u : Bool) (r : Record) → is_beside r ≡ true → AllBeside (one_if u r)
unfolding one_if
one_beside true r h = (h, tt)
one_beside false r h = tt

beside_append : (v w : List Record) → AllBeside v → AllBeside w → AllBeside (v ++ w)
beside_append [] w h k = k
beside_append (r ∷ v) w h k = (h.0, beside_append v w h.1 k)

-- ---- the deed of a G85 block is the thread that its words ask for
threading_code : (before : Kept) → motion_by (g_code threading_number) before ≡ kept.Of motion.Threading
unfolding g_code motion_by
threading_code before = refl

module _ (table : List ℤ) (set : Settings) (s : State) (b : Block) (opens : opens_threading b ≡ true) where
  threading_deed : deed_in table set s b ≡ deed.Cycle (cycle.Threading (thread_in table set s b))
  unfolding deed_in deed_of move_of sending_of thread_in
  threading_deed =
      ap (λ (k : Kept). deed_of k b (sending_of table set s b)) (motion_of_lem threading_number motion.Threading threading_code s.motion b opens)
      ∙ ap (λ (t : Thread). deed.Cycle (cycle.Threading t)) (is_thread_wanted b (settled s b) (offset_of table (settled s b)) set.retract set.empty_cuts)

  -- ---- the promise
  abbrev t : State
  t = settled s b

  before_beside : AllBeside (speed_and_tool t b ++ spindle_and_coolant t b)
  unfolding speed_and_tool spindle_and_coolant speed_of tool_of m_of
  before_beside =
      beside_append (speed_and_tool t b) (spindle_and_coolant t b)
      (beside_append (one_if (has b s_slot) (speed_of t b)) (one_if (has b t_slot) (tool_of t b)) (one_beside (has b s_slot) (speed_of t b) refl) (one_beside (has b t_slot) (tool_of t b) refl))
      (beside_append (one_if (has b spindle_slot) (m_of t b spindle_slot)) (one_if (has b coolant_slot) (m_of t b coolant_slot))
      (one_beside (has b spindle_slot) (m_of t b spindle_slot) refl) (one_beside (has b coolant_slot) (m_of t b coolant_slot) refl))

  after_beside : (u : State) → AllBeside (stopping u b)
  unfolding stopping m_of
  after_beside u = one_beside (stops b) (m_of u b flow_slot) refl

  pub block_threaded : (left : ℕ) → alarm_in table set s b left ≡ 0 → Threaded (thread_in table set s b) (done_records table set s b)
  unfolding done_records writes doing
  block_threaded left well =
      let d = deed_in table set s b in
      let c = thread_in table set s b in
      let is = threading_deed in
      let before = speed_and_tool t b ++ spindle_and_coolant t b in
      let after = stopping (done t d) b in
      let row = threaded_between c before (threading c) after before_beside (after_beside (done t d)) (threaded c (subst Right is (right_in table set s b left well))) in
      let same : before ++ (threading c ++ after) ≡ done_records table set s b =
      append_assoc (speed_and_tool t b) (spindle_and_coolant t b) (threading c ++ after)
      ∙ ap (λ (e : Deed). speed_and_tool t b ++ (spindle_and_coolant t b ++ (doing e ++ after))) (sym is) in
      subst (Threaded c) same row
