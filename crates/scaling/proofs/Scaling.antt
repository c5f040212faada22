-- The laws of a cycle's numbers, as the code makes them.
-- Assumes nothing.
use mathlib.Core.Path.{◌≡◌}
use mathlib.Core.Bool.{Bool, true, false, cond}
use Prim.Native.Nat.{ℕ, ◌*◌}
use mir.Syntax.{w32}
use mir.Val.{SFits, to_z, of_z}
use mir.Facts.{to_z-of_z}
use Rattle.block.specs.declared.Block.{Block}
use Rattle.axes.specs.declared.Axis.{Axis}
use Rattle.block.specs.Slots.{has, d_slot}
use Rattle.depths.specs.declared.Rule.{Rule}
use Rattle.threading.specs.Bits.{is_nominal, rule_of}
use Rattle.grooving.specs.declared.Way.{Way}
use Rattle.scaling.specs.declared.Sending.{Sending}
use Rattle.scaling.specs.Scaled.{is_facing, d_word, x_axis, z_axis, turning_by, turning_of, x_way, z_way, groove_of, x_bare, z_bare, empty_cuts, thread_of}

-- ---- an axis and a way, as the machine reads them back from their bits
pub axis_read : (a : Axis) {n : ℕ} → SFits w32 a.start × SFits w32 a.target → n ≡ a.allowance
    → record { start = to_z w32 (of_z w32 a.start); target = to_z w32 (of_z w32 a.target); allowance = n } ≡ a
axis_read a f e = λ i. record { start = to_z-of_z f.0 i; target = to_z-of_z f.1 i; allowance = e i }

pub way_read : (w : Way) → SFits w32 w.start × SFits w32 w.target → record { start = to_z w32 (of_z w32 w.start); target = to_z w32 (of_z w32 w.target) } ≡ w
way_read w f = λ i. record { start = to_z-of_z f.0 i; target = to_z-of_z f.1 i }

-- ---- the cycle and the groove of a block, u being whether it faces
pub cycle_made : (b : Block) (s : Sending) {u : Bool} {x z : Axis} {n : ℕ} → u ≡ is_facing b → x ≡ x_axis b s → z ≡ z_axis b s → n ≡ d_word b 3 → turning_by s u x z n ≡ turning_of b s
unfolding turning_of
cycle_made b s e x z n = λ i. turning_by s (e i) (x i) (z i) (n i)

pub groove_made : (b : Block) (s : Sending) {u : Bool} {x z : Way} {n m k : ℕ} → u ≡ is_facing b → x ≡ x_way s → z ≡ z_way s → n ≡ d_word b 3 → m ≡ d_word b 4 → k ≡ d_word b 5
    → cond u
    (record { facing = true; depth = z; width = x; tool = 2 * k; overlap = 200; piece = n; back = s.retract; dwell = m; f = s.f; g95 = s.g95 })
    (record { facing = false; depth = x; width = z; tool = k; overlap = 100; piece = 2 * n; back = 2 * s.retract; dwell = m; f = s.f; g95 = s.g95 })
    ≡ groove_of b s
unfolding groove_of
groove_made b s e x z n m k =
    λ i. cond (e i)
    (record { facing = true; depth = z i; width = x i; tool = 2 * k i; overlap = 200; piece = n i; back = s.retract; dwell = m i; f = s.f; g95 = s.g95 })
    (record { facing = false; depth = x i; width = z i; tool = k i; overlap = 100; piece = 2 * n i; back = 2 * s.retract; dwell = m i; f = s.f; g95 = s.g95 })

-- ---- the thread of a block
pub empty_made : (b : Block) (setting : ℕ) {u : Bool} {n : ℕ} → u ≡ has b (d_slot 4) → n ≡ d_word b 4 → cond u n setting ≡ empty_cuts b setting
unfolding empty_cuts
empty_made b setting e n = λ i. cond (e i) (n i) setting

pub thread_made : (b : Block) (s : Sending) {u nominal : Bool} {x z : Axis} {r : Rule} {n m k : ℕ} → u ≡ is_facing b → x ≡ x_bare s → z ≡ z_bare s
    → r ≡ rule_of (d_word b 7) → nominal ≡ is_nominal (d_word b 7) → n ≡ d_word b 3 → m ≡ d_word b 6 → k ≡ empty_cuts b s.empty_cuts
    → record { facing = u; infeed = cond u z x; path = cond u x z; rule = r; nominal = nominal; d3 = n; d6 = m; empty = k; pitch = s.f } ≡ thread_of b s
unfolding thread_of
thread_made b s e x z r nominal n m k =
    λ i. record { facing = e i; infeed = cond (e i) (z i) (x i); path = cond (e i) (x i) (z i); rule = r i; nominal = nominal i; d3 = n i; d6 = m i; empty = k i; pitch = s.f }
