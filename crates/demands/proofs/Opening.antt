-- DEMAND 3 of one block: the records of a G84 block that is done, all of them as they are written, keep the promise of its cycle.
-- Assumes nothing.
use mathlib.Core.Path.{◌≡◌, refl, sym, ap, ◌∙◌, subst}
use mathlib.Core.Bool.{Bool, true, false, cond, ◌&&◌}
use mathlib.Core.List.{List, ◌++◌, append_assoc}
use Prim.Native.Nat.{ℕ}
use native.Mathlib.Omega.{arith}
use lib.Dec.{T, eqb}
use lib.IntN.{ℤ, pos, nat_abs}
use lib.ListN.{get_or}
use borrow.Author.Tests.{eqb-true}
use Rattle.moves.specs.declared.Record.{Record}
use Rattle.codes.specs.Codes.{g_code, turning_number}
use Rattle.codes.specs.declared.Code.TheVariants as code
use Rattle.block.specs.Slots.{has, group_zero_is, s_slot, t_slot, spindle_slot, flow_slot, coolant_slot, motion_slot, code_in, g_in}
use Rattle.acts.specs.Acting.{motion_by}
use Rattle.state.specs.Modal.{block_motion, settled}
use Rattle.targets.specs.Target.{offset_of}
use Rattle.codes.specs.declared.Motion.{Motion}
use Rattle.codes.specs.declared.Motion.TheVariants as motion
use Rattle.block.specs.declared.Block.{Block}
use Rattle.axes.specs.Goes.{inward_of, across_of}
use Rattle.acts.specs.declared.Kept.{Kept}
use Rattle.acts.specs.declared.Kept.TheVariants as kept
use Rattle.state.specs.declared.State.{State}
use Rattle.deeds.specs.Deed.{move_of, deed_of}
use Rattle.scaling.specs.Wanted.{z_before_x, wanted}
use Rattle.deeds.specs.declared.Deed.{Deed}
use Rattle.deeds.specs.declared.Deed.TheVariants as deed
use Rattle.asking.specs.Judge.{doing}
use Rattle.deeds.specs.Known.{Right}
use Rattle.scaling.proofs.Wanted.{is_wanted}
use Rattle.cycles.specs.declared.Cycle.TheVariants as cycle
use Rattle.turning.specs.Turned.{Turned}
use Rattle.turning.specs.Turning.{turning}
use Rattle.turning.specs.declared.Turning.{Turning}
use Rattle.turning.proofs.Asked.{long_enough}
use Rattle.turning.proofs.Turned.{turned}
use Rattle.settings.specs.declared.Settings.{Settings}
use Rattle.strokes.proofs.Beside.{NoFeeds}
use Rattle.interpreter.specs.of_writing.Writes.{one_if, speed_of, tool_of, m_of, speed_and_tool, spindle_and_coolant, done, stops, stopping, writes}
use Rattle.interpreter.specs.of_verdicts.Verdicts.{sending_of, deed_in, alarm_in}
use Rattle.interpreter.specs.of_machine.Blocks.{done_records}
use Rattle.demands.specs.Opens.{opens_turning, wanted_in}
use Rattle.demands.proofs.Quiet.{Quiet, AllQuiet, quiet_append, turned_between}
use Rattle.interpreter.proofs.of_verdicts.Passing.{right_in}

-- ---- the deed of a G84 block is the cycle that its words ask for
both_true : (a b : Bool) → (a && b) ≡ true → (a ≡ true) × (b ≡ true)
both_true true b h = (refl, h)
both_true false b h = absurd (subst T (sym h) tt)

-- the motion of a block whose own G word of group 0 is n
pub motion_of_lem : (n : ℕ) (m : Motion) → ((before : Kept) → motion_by (g_code n) before ≡ kept.Of m) → (before : Kept) (b : Block) → group_zero_is b n ≡ true → block_motion before b ≡ kept.Of m
unfolding group_zero_is block_motion code_in g_in
motion_of_lem n m is before b h =
    let p = both_true (has b motion_slot) (eqb (nat_abs (get_or b.value motion_slot (pos 0))) n) h in
    let e = eqb-true (nat_abs (get_or b.value motion_slot (pos 0))) n p.1 in
    ap (λ (t : Bool). motion_by (cond t (g_code (nat_abs (get_or b.value motion_slot (pos 0)))) code.Unknown) before) p.0
    ∙ ap (λ (k : ℕ). motion_by (g_code k) before) e
    ∙ is before

turning_code : (before : Kept) → motion_by (g_code turning_number) before ≡ kept.Of motion.Turning
unfolding g_code motion_by
turning_code before = refl

module _ (table : List ℤ) (set : Settings) (s : State) (b : Block) (opens : opens_turning b ≡ true) where
  pub turning_deed : deed_in table set s b ≡ deed.Cycle (cycle.Turning (wanted_in table s b))
  unfolding deed_in deed_of move_of sending_of wanted_in
  turning_deed =
      ap (λ (k : Kept). deed_of k b (sending_of table set s b)) (motion_of_lem turning_number motion.Turning turning_code s.motion b opens)
      ∙ ap (λ (c : Turning). deed.Cycle (cycle.Turning c)) (is_wanted b (settled s b) (offset_of table (settled s b)) set.retract set.empty_cuts)

-- ---- the other records of a block are no feeds, and stand where the cycle starts
module _ (table : List ℤ) (set : Settings) (s : State) (b : Block) where
  abbrev t : State
  t = settled s b

  abbrev c : Turning
  c = wanted_in table s b

  one_quiet : (u : Bool) (r : Record) → Quiet c r → AllQuiet c (one_if u r)
  unfolding one_if
  one_quiet true r q = (q, tt)
  one_quiet false r q = tt

  -- a cycle starts where the axes stand
  record Starts (k : Turning) (x z : ℤ) : Type 0 where
    inward : (r : Record) → r.x ≡ x → r.z ≡ z → inward_of k.facing r ≡ k.infeed.start
    across : (r : Record) → r.x ≡ x → r.z ≡ z → across_of k.facing r ≡ k.path.start

  starts_by : (f : Bool) (k l : Turning) (x z : ℤ) → Starts k x z → Starts l x z → Starts (cond f k l) x z
  starts_by true k l x z h g = h
  starts_by false k l x z h g = g

  starts : Starts c t.x t.z
  unfolding wanted_in wanted
  starts =
      starts_by (z_before_x b) _ _ t.x t.z
      (record { inward = λ r ex ez. ez; across = λ r ex ez. ex })
      (record { inward = λ r ex ez. ex; across = λ r ex ez. ez })

  quiet_at : (r : Record) → (r.kind ≡ 2 → ⊥) → r.x ≡ t.x → r.z ≡ t.z → Quiet c r
  quiet_at r k ex ez = record { kind = k; inward = starts.inward r ex ez; across = starts.across r ex ez }

  before_quiet : AllQuiet c (speed_and_tool t b ++ spindle_and_coolant t b)
  unfolding speed_and_tool spindle_and_coolant speed_of tool_of m_of
  before_quiet =
      quiet_append c (speed_and_tool t b) (spindle_and_coolant t b)
      (quiet_append c (one_if (has b s_slot) (speed_of t b)) (one_if (has b t_slot) (tool_of t b))
      (one_quiet (has b s_slot) (speed_of t b) (quiet_at (speed_of t b) (λ e. omega (arith, e)) refl refl))
      (one_quiet (has b t_slot) (tool_of t b) (quiet_at (tool_of t b) (λ e. omega (arith, e)) refl refl)))
      (quiet_append c (one_if (has b spindle_slot) (m_of t b spindle_slot)) (one_if (has b coolant_slot) (m_of t b coolant_slot))
      (one_quiet (has b spindle_slot) (m_of t b spindle_slot) (quiet_at (m_of t b spindle_slot) (λ e. omega (arith, e)) refl refl))
      (one_quiet (has b coolant_slot) (m_of t b coolant_slot) (quiet_at (m_of t b coolant_slot) (λ e. omega (arith, e)) refl refl)))

  no_feed : (u : Bool) (r : Record) → (r.kind ≡ 2 → ⊥) → NoFeeds (one_if u r)
  unfolding one_if
  no_feed true r k = (k, tt)
  no_feed false r k = tt

  after_quiet : (u : State) → NoFeeds (stopping u b)
  unfolding stopping m_of
  after_quiet u = no_feed (stops b) (m_of u b flow_slot) (λ e. omega (arith, e))

  -- ---- the promise
  pub block_turned : opens_turning b ≡ true → (left : ℕ) → alarm_in table set s b left ≡ 0 → Turned c (done_records table set s b)
  unfolding done_records writes doing
  block_turned opens left well =
      let d = deed_in table set s b in
      let is = turning_deed table set s b opens in
      let long = long_enough c (subst Right is (right_in table set s b left well)) in
      let before = speed_and_tool t b ++ spindle_and_coolant t b in
      let after = stopping (done t d) b in
      let row = turned_between c before (turning c) after before_quiet (after_quiet (done t d)) (turned c long.0 long.1) in
      let same : before ++ (turning c ++ after) ≡ done_records table set s b =
      append_assoc (speed_and_tool t b) (spindle_and_coolant t b) (turning c ++ after)
      ∙ ap (λ (e : Deed). speed_and_tool t b ++ (spindle_and_coolant t b ++ (doing e ++ after))) (sym is) in
      subst (Turned c) same row
