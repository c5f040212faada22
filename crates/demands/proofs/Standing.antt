-- Where the axes stand by the records: the last record of a block stands where the state after it does.
-- Assumes nothing.
use mathlib.Core.Path.{◌≡◌, refl, ap, ◌∙◌}
use mathlib.Core.Bool.{Bool, true, false, cond}
use mathlib.Core.List.{List, ◌++◌}
use lib.IntN.{ℤ}
use Rattle.moves.specs.declared.Record.{Record}
use Rattle.block.specs.Slots.{has, s_slot, t_slot, spindle_slot, flow_slot, coolant_slot}
use Rattle.state.specs.Modal.{block_motion, settled}
use Rattle.block.specs.declared.Block.{Block}
use Rattle.cycles.specs.Known.{home}
use Rattle.moves.specs.Last.{last_of}
use Rattle.moves.proofs.Last.{after_move, after_here, last_append}
use Rattle.arcs.specs.Arcs.{end_record}
use Rattle.arcs.proofs.Ranges.{arc_last}
use Rattle.cycles.proofs.Homes.{goes_home}
use Rattle.state.specs.declared.State.{State}
use Rattle.asking.specs.Judge.{doing}
use Rattle.deeds.specs.declared.Deed.{Deed}
use Rattle.deeds.specs.declared.Deed.TheVariants as deed
use Rattle.scaling.specs.declared.Sending.{Sending}
use Rattle.deeds.proofs.Made.{Starts, starts}
use Rattle.interpreter.specs.of_verdicts.Verdicts.{sending_of, deed_in}
use Rattle.interpreter.specs.of_machine.Blocks.{done_records, done_state}
use Rattle.interpreter.specs.of_writing.Writes.{one_if, speed_of, tool_of, m_of, speed_and_tool, spindle_and_coolant, moved, done, stops, stopping, writes}
use Rattle.settings.specs.declared.Settings.{Settings}

-- ---- of any coordinate: f is X or Z of a record
module _ (f : Record → ℤ) where
  one_last : (t : Bool) (r : Record) (x : ℤ) → f r ≡ x → last_of f x (one_if t r) ≡ x
  unfolding one_if
  one_last true r x h = after_here f r x h
  one_last false r x h = refl

  two_last : (t u : Bool) (q r : Record) (x : ℤ) → f q ≡ x → f r ≡ x → last_of f x (one_if t q ++ one_if u r) ≡ x
  two_last t u q r x h k = last_append f (one_if t q) (one_if u r) x ∙ ap (λ (y : ℤ). last_of f y (one_if u r)) (one_last t q x h) ∙ one_last u r x k

-- ---- of a block, on the axis X or Z
module _ (second : Bool) where
  -- the axis of a record, of a state and of a sending
  abbrev on : Record → ℤ
  on r = cond second r.z r.x

  abbrev stands : State → ℤ
  stands u = cond second u.z u.x

  -- of a place named by its two axes
  on_one : (r : Record) (u : State) → (r.x ≡ u.x) × (r.z ≡ u.z) → on r ≡ stands u
  on_one r u h = (λ i. cond second (h.1 i) (h.0 i))

  doing_last : (u : State) (d : Deed) (s : Sending) → s.x ≡ u.x → s.z ≡ u.z → Starts d s → last_of on (stands u) (doing d) ≡ stands (done u d)
  unfolding doing done moved end_record
  doing_last u deed.Nothing s x z h = refl
  doing_last u deed.Nowhere s x z h = refl
  doing_last u (deed.Dwell r) s x z h = after_here on r (stands u) (on_one r u (h.0 ∙ x, h.1 ∙ z))
  doing_last u (deed.Straight m) s x z h = after_move on m.goes (stands u) h
  doing_last u (deed.Round r) s x z h = arc_last r.arc r.f r.g95 on (stands u)
  doing_last u (deed.Cycle c) s x z h = goes_home on c (stands u) (on_one (home c) u (h.0 ∙ x, h.1 ∙ z))

  -- the last record of a block stands where the state after it does
  pub block_stands : (table : List ℤ) (set : Settings) (s : State) (b : Block) → last_of on (stands s) (done_records table set s b) ≡ stands (done_state table set s b)
  unfolding done_records done_state writes speed_and_tool spindle_and_coolant stopping speed_of tool_of m_of deed_in sending_of settled
  block_stands table set s b =
      let t = settled s b in
      let d = deed_in table set s b in
      let v = speed_and_tool t b in
      let w = spindle_and_coolant t b in
      let u = doing d in
      let q = stopping (done t d) b in
      last_append on v (w ++ (u ++ q)) (stands s)
      ∙ ap (λ (x : ℤ). last_of on x (w ++ (u ++ q))) (two_last on (has b s_slot) (has b t_slot) (speed_of t b) (tool_of t b) (stands s) refl refl)
      ∙ last_append on w (u ++ q) (stands s)
      ∙ ap (λ (x : ℤ). last_of on x (u ++ q)) (two_last on (has b spindle_slot) (has b coolant_slot) (m_of t b spindle_slot) (m_of t b coolant_slot) (stands s) refl refl)
      ∙ last_append on u q (stands s)
      ∙ ap (λ (x : ℤ). last_of on x q) (doing_last t d (sending_of table set s b) refl refl (starts b (sending_of table set s b) (block_motion s.motion b)))
      ∙ one_last on (stops b) (m_of (done t d) b flow_slot) (stands (done t d)) refl
