-- The numbers of every record that a run writes fit their places in the list, so that its bytes have one reading.
-- Assumes nothing.
use mathlib.Core.Path.{◌≡◌, refl, sym, subst}
use mathlib.Core.Bool.{Bool, true, false, cond}
use mathlib.Core.List.{List, [], ◌∷◌, ◌++◌}
use Prim.Native.Nat.{ℕ, ◌<◌, ◌^◌}
use native.Mathlib.Omega.{arith}
use lib.IntN.{ℤ, pos, nat_abs}
use lib.ListN.{get_or}
use mir.Syntax.{w32}
use mir.Val.{SFits}
use Rattle.whole.specs.Position.{in_table}
use Rattle.whole.proofs.Integers.{whole}
use Rattle.whole.proofs.Positions.{in_range}
use Rattle.moves.specs.Form.{Fitting, AllFitting}
use Rattle.moves.specs.declared.Record.{Record}
use Rattle.block.specs.Slots.{has, f_slot, s_slot, t_slot, spindle_slot, flow_slot, coolant_slot, code_in, g_in}
use Rattle.block.specs.Worded.{Worded}
use Rattle.state.specs.Modal.{feed_after, settled}
use Rattle.state.specs.Known.{Sound}
use Rattle.targets.proofs.Ranges.{settled_sound}
use Rattle.block.specs.declared.Block.{Block}
use Rattle.settings.specs.Known.{Table}
use Rattle.state.specs.declared.State.{State}
use Rattle.asking.specs.Judge.{doing}
use Rattle.deeds.specs.declared.Deed.{Deed}
use Rattle.deeds.specs.declared.Deed.TheVariants as deed
use Rattle.asking.proofs.Judging.{doing_fitting}
use Rattle.interpreter.specs.of_verdicts.Verdicts.{deed_in, alarm_in}
use Rattle.interpreter.specs.of_machine.Blocks.{done_records, done_state}
use Rattle.settings.specs.Known.{InRange}
use Rattle.interpreter.specs.of_writing.Writes.{one_if, speed_of, tool_of, m_of, speed_and_tool, spindle_and_coolant, moved, done, stops, stopping, writes}
use Rattle.settings.specs.declared.Settings.{Settings}
use Rattle.interpreter.proofs.of_verdicts.Passing.{right_in}
use Rattle.interpreter.proofs.of_machine.Running.{sound_after}
use Rattle.interpreter.proofs.of_verdicts.Sent.{known_in}

-- ---- rows
pub fitting_append : (v w : List Record) → AllFitting v → AllFitting w → AllFitting (v ++ w)
fitting_append [] w h k = k
fitting_append (r ∷ v) w h k = (h.0, fitting_append v w h.1 k)

one_fitting : (t : Bool) (r : Record) → Fitting r → AllFitting (one_if t r)
unfolding one_if
one_fitting true r f = (f, tt)
one_fitting false r f = tt

-- ---- places and numbers
table_fits : (z : ℤ) → in_table z ≡ true → SFits w32 z
table_fits z h = let k = in_range z h in omega (whole, k.low, k.high)

small : (n : ℕ) → n < 10_000_000 → n < 2 ^ 32
small n h = omega (arith, h)

code_small : (b : Block) (k : ℕ) → Worded b → code_in b k < 2 ^ 32
unfolding code_in g_in
code_small b k w = small (nat_abs (get_or b.value k (pos 0))) (w.each k)

flag_small : (t : Bool) (n : ℕ) → n < 2 ^ 8 → cond t n 0 < 2 ^ 8
flag_small true n h = h
flag_small false n h = omega arith

-- ---- F
feed_either : (t : Bool) (x y : ℕ) → x < 10_000_000 → y < 10_000_000 → cond t x y < 10_000_000
feed_either true x y h k = h
feed_either false x y h k = k

settled_feed : (s : State) (b : Block) → s.f < 10_000_000 → Worded b → (settled s b).f < 10_000_000
unfolding settled feed_after code_in g_in
settled_feed s b h w = feed_either (has b f_slot) _ s.f (w.each f_slot) h

done_feed : (s : State) (d : Deed) → (done s d).f ≡ s.f
unfolding done moved
done_feed s deed.Nothing = refl
done_feed s deed.Nowhere = refl
done_feed s (deed.Dwell r) = refl
done_feed s (deed.Straight m) = refl
done_feed s (deed.Round r) = refl
done_feed s (deed.Cycle c) = refl

-- ---- the records of a block
m_fitting : (u : State) (b : Block) (k : ℕ) → Worded b → SFits w32 u.x → SFits w32 u.z → Fitting (m_of u b k)
unfolding m_of
m_fitting u b k w x z = record { kind = omega arith; flags = omega arith; x = x; z = z; value = code_small b k w }

module _ (table : List ℤ) (set : Settings) (s : State) (b : Block) (known : Table table) (range : InRange set) (h : Sound s) (feed : s.f < 10_000_000) (w : Worded b) where
  abbrev t : State
  t = settled s b

  at_x : SFits w32 t.x
  at_x = table_fits t.x (settled_sound s b h).x

  at_z : SFits w32 t.z
  at_z = table_fits t.z (settled_sound s b h).z

  at_f : t.f < 2 ^ 32
  at_f = small t.f (settled_feed s b feed w)

  before_fitting : AllFitting (speed_and_tool t b)
  unfolding speed_and_tool speed_of tool_of
  before_fitting =
      fitting_append (one_if (has b s_slot) (speed_of t b)) (one_if (has b t_slot) (tool_of t b))
      (one_fitting (has b s_slot) (speed_of t b) (record { kind = omega arith; flags = flag_small t.g96 2 (omega arith); x = at_x; z = at_z; value = code_small b s_slot w }))
      (one_fitting (has b t_slot) (tool_of t b) (record { kind = omega arith; flags = omega arith; x = at_x; z = at_z; value = code_small b t_slot w }))

  switched_fitting : AllFitting (spindle_and_coolant t b)
  unfolding spindle_and_coolant
  switched_fitting =
      fitting_append (one_if (has b spindle_slot) (m_of t b spindle_slot)) (one_if (has b coolant_slot) (m_of t b coolant_slot))
      (one_fitting (has b spindle_slot) (m_of t b spindle_slot) (m_fitting t b spindle_slot w at_x at_z))
      (one_fitting (has b coolant_slot) (m_of t b coolant_slot) (m_fitting t b coolant_slot w at_x at_z))

  module _ (left : ℕ) (well : alarm_in table set s b left ≡ 0) where
    after_fitting : AllFitting (stopping (done_state table set s b) b)
    unfolding stopping
    after_fitting =
        let k = sound_after table set s b left well range h in
        let u = done_state table set s b in
        one_fitting (stops b) (m_of u b flow_slot) (m_fitting u b flow_slot w (table_fits u.x k.x) (table_fits u.z k.z))

    pub block_fitting : AllFitting (done_records table set s b)
    unfolding done_records writes done_state
    block_fitting =
        let d = deed_in table set s b in
        fitting_append (speed_and_tool t b) (spindle_and_coolant t b ++ (doing d ++ stopping (done t d) b)) before_fitting
        (fitting_append (spindle_and_coolant t b) (doing d ++ stopping (done t d) b) switched_fitting
        (fitting_append (doing d) (stopping (done t d) b)
        (doing_fitting d (right_in table set s b left well) (known_in table set s b known range h w at_f))
        after_fitting))

  pub feed_after_lem : (done_state table set s b).f < 10_000_000
  unfolding done_state
  feed_after_lem = subst (λ (n : ℕ). n < 10_000_000) (sym (done_feed t (deed_in table set s b))) (settled_feed s b feed w)
