-- THE LAW OF THE FOUR CYCLES: of one block, and of every input.
-- Assumes nothing.
use mathlib.Core.Path.{◌≡◌, refl, sym, ap, ◌∙◌, subst}
use mathlib.Core.Bool.{Bool, true, false, cond, ◌||◌}
use mathlib.Core.List.{List, [], ◌∷◌, ◌++◌, append_assoc}
use Prim.Native.Nat.{ℕ}
use native.Mathlib.Omega.{arith}
use lib.Dec.{T}
use lib.IntN.{ℤ}
use lib.ListN.{length}
use Rattle.moves.specs.declared.Record.{Record}
use Rattle.codes.specs.Codes.{g_code, turning_number, grooving_number, chip_breaking_number, redrawing_number}
use Rattle.codes.specs.declared.Motion.{Motion}
use Rattle.codes.specs.declared.Motion.TheVariants as motion
use Rattle.block.specs.declared.Block.{Block}
use Rattle.block.specs.Slots.{has, group_zero_is, s_slot, t_slot, spindle_slot, flow_slot, coolant_slot}
use Rattle.acts.specs.Acting.{motion_by}
use Rattle.acts.specs.declared.Kept.{Kept}
use Rattle.acts.specs.declared.Kept.TheVariants as kept
use Rattle.axes.specs.Axis.{distance, net}
use Rattle.axes.specs.declared.Axis.{Axis}
use Rattle.turning.specs.declared.Turning.{Turning}
use Rattle.grooving.specs.declared.Groove.{Groove}
use Rattle.cycles.specs.declared.Cycle.{Cycle}
use Rattle.cycles.specs.declared.Cycle.TheVariants as cycle
use Rattle.cycles.specs.Cycle as cycles
use Rattle.strokes.specs.Strokes.{Inward, DepthsAddUp, Cutting, g84, g86, g87_88, refused, inward, records}
use Rattle.strokes.proofs.FourCycles.{depths_add_up}
use Rattle.strokes.proofs.Beside.{NoFeeds, adds_up_between}
use Rattle.state.specs.Modal.{settled}
use Rattle.targets.specs.Target.{offset_of, target_x, target_z}
use Rattle.state.specs.declared.State.{State}
use Rattle.targets.specs.declared.Pair.{Pair}
use Rattle.settings.specs.declared.Settings.{Settings}
use Rattle.scaling.specs.Scaled.{is_facing, groove_of, bore_of}
use Rattle.deeds.specs.Deed.{move_of, deed_of}
use Rattle.scaling.specs.Wanted.{z_before_x, x_axis_wanted, z_axis_wanted, wanted}
use Rattle.deeds.specs.Known.{Right}
use Rattle.deeds.specs.declared.Deed.{Deed}
use Rattle.deeds.specs.declared.Deed.TheVariants as deed
use Rattle.asking.specs.Judge.{doing}
use Rattle.interpreter.specs.of_writing.Writes.{one_if, speed_of, tool_of, m_of, speed_and_tool, spindle_and_coolant, done, stops, stopping, writes}
use Rattle.interpreter.specs.of_verdicts.Verdicts.{sending_of, deed_in, alarm_in}
use Rattle.interpreter.proofs.of_verdicts.Passing.{right_in}
use Rattle.interpreter.specs.of_machine.Blocks.{done_records}
use Rattle.interpreter.specs.of_taking.Steps.{Task}
use Rattle.interpreter.specs.Answers.{interpretation}
use Rattle.demands.specs.Opens.{wanted_in}
use Rattle.demands.specs.Strokes.{opens_cutting, way_in, first_axis, inward_wanted, inward_in, DepthLaw, DepthLawInBuffer}
use Rattle.demands.proofs.Buffers.{every_read}
use Rattle.demands.proofs.Demands.{every_run, each_from}
use Rattle.demands.proofs.Opening.{motion_of_lem, turning_deed}

-- ---- the four cycles among all
abbrev as_cycle : Cutting → Cycle
as_cycle (g84 c) = cycle.Turning c
as_cycle (g86 g) = cycle.Grooving g
as_cycle (g87_88 b) = cycle.Drilling b

same_refusal : (c : Cutting) → cycles.wrong (as_cycle c) ≡ false → refused c ≡ false
unfolding refused
same_refusal (g84 c) e = e
same_refusal (g86 g) e = e
same_refusal (g87_88 b) e = e

same_records_lem : (c : Cutting) → records c ≡ cycles.records (as_cycle c)
unfolding records
same_records_lem (g84 c) = refl
same_records_lem (g86 g) = refl
same_records_lem (g87_88 b) = refl

-- ---- the cycle that a block opens, and its way in
-- whichever of two cycles a test picks, its way is along the axis that the same test picks
picked_turning : (t : Bool) (p q : Turning) (z x : Axis) → inward (g84 p) ≡ way_in true z (net z) → inward (g84 q) ≡ way_in false x (net x)
    → inward (g84 (cond t p q)) ≡ way_in t (cond t z x) (net (cond t z x))
picked_turning true p q z x e f = e
picked_turning false p q z x e f = f

picked_groove : (t : Bool) (p q : Groove) (z x : Axis) → inward (g86 p) ≡ way_in true z (distance z) → inward (g86 q) ≡ way_in false x (distance x)
    → inward (g86 (cond t p q)) ≡ way_in t (cond t z x) (distance (cond t z x))
picked_groove true p q z x e f = e
picked_groove false p q z x e f = f

-- the motions of the three other numbers
grooving_code : (before : Kept) → motion_by (g_code grooving_number) before ≡ kept.Of motion.Grooving
unfolding g_code motion_by
grooving_code before = refl

breaking_code : (before : Kept) → motion_by (g_code chip_breaking_number) before ≡ kept.Of motion.ChipBreaking
unfolding g_code motion_by
breaking_code before = refl

redrawing_code : (before : Kept) → motion_by (g_code redrawing_number) before ≡ kept.Of motion.Redrawing
unfolding g_code motion_by
redrawing_code before = refl

record Opens (table : List ℤ) (set : Settings) (s : State) (b : Block) : Type 0 where
  cutting : Cutting
  does : deed_in table set s b ≡ deed.Cycle (as_cycle cutting)
  way : inward cutting ≡ inward_in table s b

never : {A : Type 0} → false ≡ true → A
never h = absurd (subst T (sym h) tt)

module _ (table : List ℤ) (set : Settings) (s : State) (b : Block) where
  abbrev t : State
  t = settled s b

  abbrev o : Pair
  o = offset_of table t

  -- what is asked for, by the number
  asked_84 : group_zero_is b turning_number ≡ true → way_in (z_before_x b) (first_axis b t o) (net (first_axis b t o)) ≡ inward_in table s b
  unfolding inward_wanted inward_in
  asked_84 e = sym (rw e refl)

  asked_86 : group_zero_is b turning_number ≡ false → group_zero_is b grooving_number ≡ true → way_in (z_before_x b) (first_axis b t o) (distance (first_axis b t o)) ≡ inward_in table s b
  unfolding inward_wanted inward_in
  asked_86 n e = sym (rw n (rw e refl))

  asked_others : group_zero_is b turning_number ≡ false → group_zero_is b grooving_number ≡ false → way_in true (z_axis_wanted b t o) (distance (z_axis_wanted b t o)) ≡ inward_in table s b
  unfolding inward_wanted inward_in
  asked_others n m = sym (rw n (rw m refl))

  -- the ways of the cycles
  turning_way : inward (g84 (wanted_in table s b)) ≡ way_in (z_before_x b) (first_axis b t o) (net (first_axis b t o))
  unfolding inward wanted_in wanted
  turning_way = picked_turning (z_before_x b) _ _ (z_axis_wanted b t o) (x_axis_wanted b t o) refl refl

  groove_way : inward (g86 (groove_of b (sending_of table set s b))) ≡ way_in (z_before_x b) (first_axis b t o) (distance (first_axis b t o))
  unfolding inward sending_of groove_of is_facing target_x target_z
  groove_way = picked_groove (z_before_x b) _ _ (z_axis_wanted b t o) (x_axis_wanted b t o) refl refl

  bore_way : (full : Bool) → inward (g87_88 (bore_of full b (sending_of table set s b))) ≡ way_in true (z_axis_wanted b t o) (distance (z_axis_wanted b t o))
  unfolding inward sending_of bore_of target_z
  bore_way full = refl

  -- the deeds
  by_motion : (n : ℕ) (m : Motion) → ((before : Kept) → motion_by (g_code n) before ≡ kept.Of m) → group_zero_is b n ≡ true → deed_in table set s b ≡ deed_of (kept.Of m) b (sending_of table set s b)
  unfolding deed_in
  by_motion n m is e = ap (λ (k : Kept). deed_of k b (sending_of table set s b)) (motion_of_lem n m is s.motion b e)

  opens_84 : group_zero_is b turning_number ≡ true → Opens table set s b
  opens_84 e = record { cutting = g84 (wanted_in table s b); does = turning_deed table set s b e; way = turning_way ∙ asked_84 e }

  opens_86 : group_zero_is b turning_number ≡ false → group_zero_is b grooving_number ≡ true → Opens table set s b
  unfolding deed_of move_of
  opens_86 n e = record {
    cutting = g86 (groove_of b (sending_of table set s b));
    does = by_motion 86 motion.Grooving grooving_code e;
    way = groove_way ∙ asked_86 n e;
  }

  opens_87 : group_zero_is b turning_number ≡ false → group_zero_is b grooving_number ≡ false → group_zero_is b chip_breaking_number ≡ true → Opens table set s b
  unfolding deed_of move_of
  opens_87 n m e = record {
    cutting = g87_88 (bore_of false b (sending_of table set s b));
    does = by_motion 87 motion.ChipBreaking breaking_code e;
    way = bore_way false ∙ asked_others n m;
  }

  opens_88 : group_zero_is b turning_number ≡ false → group_zero_is b grooving_number ≡ false → group_zero_is b redrawing_number ≡ true → Opens table set s b
  unfolding deed_of move_of
  opens_88 n m e = record {
    cutting = g87_88 (bore_of true b (sending_of table set s b));
    does = by_motion 88 motion.Redrawing redrawing_code e;
    way = bore_way true ∙ asked_others n m;
  }

  opens : opens_cutting b ≡ true → Opens table set s b
  unfolding opens_cutting
  opens h = go (group_zero_is b turning_number) (group_zero_is b grooving_number) (group_zero_is b chip_breaking_number) (group_zero_is b redrawing_number) refl refl refl refl h
    where
      go : (i j k l : Bool) → group_zero_is b turning_number ≡ i → group_zero_is b grooving_number ≡ j → group_zero_is b chip_breaking_number ≡ k → group_zero_is b redrawing_number ≡ l → ((i || j) || (k || l)) ≡ true → Opens table set s b
      go true j k l p q r t h = opens_84 p
      go false true k l p q r t h = opens_86 p q
      go false false true l p q r t h = opens_87 p q r
      go false false false true p q r t h = opens_88 p q t
      go false false false false p q r t h = never h

  -- ---- the other records of a block are no feeds
  one_beside : (u : Bool) (r : Record) → (r.kind ≡ 2 → ⊥) → NoFeeds (one_if u r)
  unfolding one_if
  one_beside true r h = (h, tt)
  one_beside false r h = tt

  joined : (v w : List Record) → NoFeeds v → NoFeeds w → NoFeeds (v ++ w)
  joined [] w h k = k
  joined (r ∷ v) w h k = (h.0, joined v w h.1 k)

  before_beside : NoFeeds (speed_and_tool t b ++ spindle_and_coolant t b)
  unfolding speed_and_tool spindle_and_coolant speed_of tool_of m_of
  before_beside =
      joined (speed_and_tool t b) (spindle_and_coolant t b)
      (joined (one_if (has b s_slot) (speed_of t b)) (one_if (has b t_slot) (tool_of t b))
      (one_beside (has b s_slot) (speed_of t b) (λ e. omega (arith, e))) (one_beside (has b t_slot) (tool_of t b) (λ e. omega (arith, e))))
      (joined (one_if (has b spindle_slot) (m_of t b spindle_slot)) (one_if (has b coolant_slot) (m_of t b coolant_slot))
      (one_beside (has b spindle_slot) (m_of t b spindle_slot) (λ e. omega (arith, e))) (one_beside (has b coolant_slot) (m_of t b coolant_slot) (λ e. omega (arith, e))))

  after_beside : (u : State) → NoFeeds (stopping u b)
  unfolding stopping m_of
  after_beside u = one_beside (stops b) (m_of u b flow_slot) (λ e. omega (arith, e))

  -- ---- THE LAW, of one block
  block_adds_up : opens_cutting b ≡ true → (left : ℕ) → alarm_in table set s b left ≡ 0 → DepthsAddUp (inward_in table s b) (done_records table set s b)
  unfolding done_records writes doing
  block_adds_up h left well =
      let k = opens h in
      let c = k.cutting in
      let d = deed_in table set s b in
      let is = k.does in
      let right = same_refusal c (subst Right is (right_in table set s b left well)) in
      let before = speed_and_tool t b ++ spindle_and_coolant t b in
      let after = stopping (done t d) b in
      let row = adds_up_between (inward c) before (records c) after before_beside (after_beside (done t d)) (depths_add_up c right) in
      let same : before ++ (records c ++ after) ≡ done_records table set s b =
      append_assoc (speed_and_tool t b) (spindle_and_coolant t b) (records c ++ after)
      ∙ ap (λ (rs : List Record). speed_and_tool t b ++ (spindle_and_coolant t b ++ (rs ++ after))) (same_records_lem c)
      ∙ ap (λ (e : Deed). speed_and_tool t b ++ (spindle_and_coolant t b ++ (doing e ++ after))) (sym is) in
      subst (λ (w : Inward). DepthsAddUp w (done_records table set s b)) k.way (subst (DepthsAddUp (inward c)) same row)

-- ---- of every input
abbrev AddsUp : Task → State → Block → List Record → Type 0
AddsUp t s b rs = opens_cutting b ≡ true → DepthsAddUp (inward_in t.table s b) rs

adds_up : (t : Task) (s : State) (b : Block) (left : ℕ) → alarm_in t.table t.settings s b left ≡ 0 → AddsUp t s b (done_records t.table t.settings s b)
adds_up t s b left well opens = block_adds_up t.table t.settings s b opens left well

module _ (tape : List ℕ) (table : List ℤ) (set : Settings) (size : ℕ) where
  pub depth_law : (bytes : ℕ) → DepthLaw tape table set size bytes
  depth_law bytes = (every_run AddsUp adds_up tape table set size bytes).steps

  pub depth_law_in_buffer : (b : List ℕ) → DepthLawInBuffer tape table set size b
  depth_law_in_buffer b =
      each_from (λ st k a opens. record { stands = a.0; adds_up = a.1 opens }) 0 (interpretation tape table set size (length b)).steps (every_read AddsUp adds_up tape table set size b).steps
