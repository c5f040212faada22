-- What is known of the deed that a block gives: a cycle starts where the axes stand, and its numbers fit where those of the sending do. One clause for each motion.
-- Assumes nothing.
use mathlib.Core.Path.{◌≡◌, refl}
use mathlib.Core.Bool.{Bool, true, false, cond, ◌||◌}
use Prim.Native.Nat.{ℕ, ◌≤◌, ◌<◌, ◌^◌}
use native.Mathlib.Omega.{arith}
use lib.IntN.{nat_abs, ◌-ℤ◌}
use mir.Syntax.{w32}
use mir.Val.{SFits}
use Rattle.moves.specs.Form.{Fitting}
use Rattle.moves.specs.Kinds.{rapid, feed, thread}
use Rattle.moves.proofs.Last.{Moves}
use Rattle.moves.specs.declared.Record.{Record}
use Rattle.codes.specs.declared.Motion.TheVariants as motion
use Rattle.block.specs.declared.Block.{Block}
use Rattle.block.specs.Slots.{has, d_slot}
use Rattle.acts.specs.declared.Kept.{Kept}
use Rattle.acts.specs.declared.Kept.TheVariants as kept
use Rattle.arcs.specs.Arcs.{arc_of}
use Rattle.arcs.proofs.Ranges.{in_reach, limits_in_reach, centre_in_x, centre_in_z}
use Rattle.axes.specs.Goes.{rapid_to}
use Rattle.axes.specs.declared.Axis.{Axis}
use Rattle.depths.specs.Depths.{greatest_d}
use Rattle.threading.proofs.Counts.{bottom_fits}
use Rattle.turning.specs.declared.Turning as turns
use Rattle.grooving.specs.declared.Groove.{Groove}
use Rattle.cycles.specs.Cycle as cycle
use Rattle.cycles.specs.Known.{home}
use Rattle.cycles.specs.declared.Cycle as cycles
use Rattle.cycles.specs.declared.Cycle.TheVariants.{Turning, Threading, Grooving, Drilling}
use Rattle.deeds.specs.declared.Deed.{Deed}
use Rattle.deeds.specs.declared.Deed.TheVariants.{Nothing, Nowhere, Dwell, Straight, Round, Cycle}
use Rattle.scaling.specs.declared.Sending.{Sending}
use Rattle.deeds.specs.Deed.{has_path, has_centre, straight_if, start_spot, end_spot, centre_words, round_of, round_if, move_of, deed_of}
use Rattle.scaling.specs.Scaled.{is_facing, d_word, turning_of, x_bare, z_bare, empty_cuts, thread_of, groove_of, bore_of}
use Rattle.scaling.specs.Known.{Small}
use Rattle.deeds.specs.Known.{Centred, Curved, Known}

-- what is known of a sending
pub record Sends (s : Sending) : Type 0 where
  pub x : SFits w32 s.x
  pub z : SFits w32 s.z
  pub x_target : SFits w32 s.x_target
  pub z_target : SFits w32 s.z_target
  pub f : s.f < 2 ^ 32
  pub near_x : nat_abs (s.x_target -ℤ s.x) < 100_000_000
  pub near_z : nat_abs (s.z_target -ℤ s.z) < 100_000_000
  pub reach_x : nat_abs s.x_target < 1_000_000_000
  pub reach_z : nat_abs s.z_target < 1_000_000_000
  pub empty : s.empty_cuts ≤ greatest_d

-- a record at the place where the axes stand
abbrev pub At : Record → Sending → Type 0
At r s = (r.x ≡ s.x) × (r.z ≡ s.z)

-- a dwell is there, an arc and a cycle start there, and a straight move leaves the axes where it goes
abbrev pub Starts : Deed → Sending → Type 0
Starts Nothing s = Unit {0}
Starts Nowhere s = Unit {0}
Starts (Dwell r) s = At r s
Starts (Straight m) s = Moves m.goes
Starts (Round r) s = (r.arc.start.x ≡ s.x) × (r.arc.start.z ≡ s.z)
Starts (Cycle c) s = At (home c) s

-- what holds of both holds of what a test picks
either_of : {A : Type 0} (P : A → Type 0) (t : Bool) (x y : A) → P x → P y → P (cond t x y)
either_of P true x y p q = p
either_of P false x y p q = q

flag : (t : Bool) → cond t 1 0 < 2 ^ 8
flag true = omega arith
flag false = omega arith

-- ---- where it starts
module _ (b : Block) (s : Sending) where
  turning_starts : Starts (Cycle (Turning (turning_of b s))) s
  unfolding turning_of rapid_to
  turning_starts = either_of (λ (c : turns.Turning). Starts (Cycle (Turning c)) s) (is_facing b) _ _ (refl, refl) (refl, refl)

  bare_starts : (t : Bool) → At (rapid_to t (cond t (z_bare s) (x_bare s)).start (cond t (x_bare s) (z_bare s)).start) s
  unfolding rapid_to
  bare_starts true = (refl, refl)
  bare_starts false = (refl, refl)

  thread_starts : Starts (Cycle (Threading (thread_of b s))) s
  unfolding thread_of
  thread_starts = bare_starts (is_facing b)

  groove_starts : Starts (Cycle (Grooving (groove_of b s))) s
  unfolding groove_of rapid_to
  groove_starts = either_of (λ (g : Groove). Starts (Cycle (Grooving g)) s) (is_facing b) _ _ (refl, refl) (refl, refl)

  bore_starts : (full : Bool) → Starts (Cycle (Drilling (bore_of full b s))) s
  unfolding bore_of
  bore_starts full = (refl, refl)

  straight_starts : (g : Bool) (n : ℕ) (r : Record) → Moves r → Starts (straight_if b g n r) s
  unfolding straight_if
  straight_starts g n r h = either_of (λ (d : Deed). Starts d s) (has_centre b) _ _ tt (either_of (λ (d : Deed). Starts d s) (has_path b) _ _ h tt)

  round_starts : (clockwise : Bool) → Starts (round_if clockwise b s) s
  unfolding round_if round_of arc_of
  round_starts clockwise = either_of (λ (d : Deed). Starts d s) (has_path b) _ _ (refl, refl) tt

  pub starts : (k : Kept) → Starts (deed_of k b s) s
  unfolding deed_of move_of
  starts (kept.Of motion.Rapid) = straight_starts true 0 (rapid s.x_target s.z_target) refl
  starts (kept.Of motion.Feed) = straight_starts false 1 (feed s.x_target s.z_target s.f s.g95) refl
  starts (kept.Of motion.Clockwise) = round_starts true
  starts (kept.Of motion.Counterclockwise) = round_starts false
  starts (kept.Of motion.Thread) = straight_starts false 10 (thread s.x_target s.z_target s.f) refl
  starts (kept.Of motion.Dwell) = (refl, refl)
  starts (kept.Of motion.Turning) = turning_starts
  starts (kept.Of motion.Threading) = thread_starts
  starts (kept.Of motion.Grooving) = groove_starts
  starts (kept.Of motion.ChipBreaking) = bore_starts false
  starts (kept.Of motion.Redrawing) = bore_starts true
  starts kept.Nothing = either_of (λ (d : Deed). Starts d s) (has_path b || has_centre b) Nowhere Nothing tt tt

-- ---- that its numbers fit
module _ (b : Block) (s : Sending) (h : Sends s) where
  turning_known : Known (Cycle (Turning (turning_of b s)))
  unfolding turning_of
  turning_known =
      either_of (λ (c : turns.Turning). Known (Cycle (Turning c))) (is_facing b) _ _ ((h.z, h.z_target), (h.x, h.x_target), h.f) ((h.x, h.x_target), (h.z, h.z_target), h.f)

  -- an axis without allowance, as a thread has it
  abbrev Fits : Axis → Type 0
  Fits a = SFits w32 a.start × SFits w32 a.target

  thread_known : Small b → Known (Cycle (Threading (thread_of b s)))
  unfolding thread_of empty_cuts
  thread_known w = (
    either_of Fits (is_facing b) (z_bare s) (x_bare s) (h.z, h.z_target) (h.x, h.x_target),
    either_of Fits (is_facing b) (x_bare s) (z_bare s) (h.x, h.x_target) (h.z, h.z_target),
    h.f,
    record {
      d3 = omega (arith, w.each 3 (omega arith));
      d6 = omega (arith, w.each 6 (omega arith));
      empty = either_of (λ (n : ℕ). n ≤ greatest_d) (has b (d_slot 4)) (d_word b 4) s.empty_cuts (omega (arith, w.each 4 (omega arith))) h.empty;
      bottom = bottom_fits (thread_of b s) (omega (arith, w.each 6 (omega arith))) (either_of (λ (a : Axis). nat_abs a.target < 1_000_000_000) (is_facing b) (z_bare s) (x_bare s) h.reach_z h.reach_x);
    },
  )

  groove_known : d_word b 4 < 2 ^ 32 → Known (Cycle (Grooving (groove_of b s)))
  unfolding groove_of
  groove_known t =
      either_of (λ (g : Groove). Known (Cycle (Grooving g))) (is_facing b) _ _ ((h.z, h.z_target), (h.x, h.x_target), h.f, t, h.near_z, h.near_x)
      ((h.x, h.x_target), (h.z, h.z_target), h.f, t, h.near_x, h.near_z)

  bore_known : (full : Bool) → d_word b 4 < 2 ^ 32 → Known (Cycle (Drilling (bore_of full b s)))
  unfolding bore_of
  bore_known full t = (h.x, (h.z, h.z_target), h.f, t)

  straight_known : (g : Bool) (n : ℕ) (r : Record) → Fitting r → Known (straight_if b g n r)
  unfolding straight_if
  straight_known g n r f = either_of Known (has_centre b) _ _ tt (either_of Known (has_path b) _ _ f tt)

  curved : Centred b s → (clockwise : Bool) → Curved (round_of clockwise b s)
  unfolding round_of arc_of
  curved c clockwise = record {
    reach = in_reach clockwise (start_spot s) (end_spot s) (centre_words b) c h.near_x h.near_z;
    limits = limits_in_reach clockwise (start_spot s) (end_spot s) (centre_words b) c;
    centre_x = centre_in_x clockwise (start_spot s) (end_spot s) (centre_words b) c;
    centre_z = centre_in_z clockwise (start_spot s) (end_spot s) (centre_words b) c;
    end_x = h.x_target;
    end_z = h.z_target;
    f = h.f;
  }

  round_known : Centred b s → (clockwise : Bool) → Known (round_if clockwise b s)
  unfolding round_if
  round_known c clockwise = either_of Known (has_path b) _ _ (curved c clockwise) tt

  pub known : Small b → Centred b s → (k : Kept) → Known (deed_of k b s)
  unfolding deed_of move_of
  known w c (kept.Of motion.Rapid) = straight_known true 0 (rapid s.x_target s.z_target) (record { kind = omega arith; flags = omega arith; x = h.x_target; z = h.z_target; value = omega arith })
  known w c (kept.Of motion.Feed) =
      straight_known false 1 (feed s.x_target s.z_target s.f s.g95) (record { kind = omega arith; flags = flag s.g95; x = h.x_target; z = h.z_target; value = h.f })
  known w c (kept.Of motion.Clockwise) = round_known c true
  known w c (kept.Of motion.Counterclockwise) = round_known c false
  known w c (kept.Of motion.Thread) = straight_known false 10 (thread s.x_target s.z_target s.f) (record { kind = omega arith; flags = omega arith; x = h.x_target; z = h.z_target; value = h.f })
  known w c (kept.Of motion.Dwell) = record { kind = omega arith; flags = omega arith; x = h.x; z = h.z; value = omega (arith, w.each 4 (omega arith)) }
  known w c (kept.Of motion.Turning) = turning_known
  known w c (kept.Of motion.Threading) = thread_known w
  known w c (kept.Of motion.Grooving) = groove_known (omega (arith, w.each 4 (omega arith)))
  known w c (kept.Of motion.ChipBreaking) = bore_known false (omega (arith, w.each 4 (omega arith)))
  known w c (kept.Of motion.Redrawing) = bore_known true (omega (arith, w.each 4 (omega arith)))
  known w c kept.Nothing = either_of Known (has_path b || has_centre b) Nowhere Nothing tt tt
