-- THE PROMISE OF ARCS holds of every input: of one block from a place within the limits, along the steps of a run, and off the bytes of the buffer; and a block that asks for an arc writes it.
-- Assumes nothing.
use mathlib.Core.Path.{◌≡◌, refl, sym, ap, ◌∙◌, subst, subst₂}
use mathlib.Core.Bool.{Bool, true, false, not, ◌||◌}
use mathlib.Core.List.{List, [], ◌∷◌, ◌++◌, append_assoc}
use Prim.Native.Nat.{ℕ, ◌-◌, ◌<◌}
use lib.Dec.{T, ltb}
use lib.IntN.{ℤ}
use lib.Signed.{lt_z}
use lib.ListN.{length, take}
use Rattle.whole.specs.Position.{in_table}
use Rattle.moves.specs.Last.{last_of}
use Rattle.moves.specs.Form.{whats}
use Rattle.moves.specs.Reading.{row_in}
use Rattle.moves.specs.declared.Record.{Record}
use Rattle.acts.specs.declared.Kept as keeping
use Rattle.block.specs.Slots.{has, any_of, any_in, path_slots, x_slot, z_slot, u_slot, w_slot, s_slot, t_slot, spindle_slot, flow_slot, coolant_slot}
use Rattle.block.specs.declared.Block.{Block}
use Rattle.settings.specs.Limits.{outside, outside_span}
use Rattle.settings.specs.Points.{with_points}
use Rattle.settings.specs.Wrong.{greatest_retract, greatest_empty_cuts, span_wrong, numbers_wrong, table_wrong, settings_wrong}
use Rattle.settings.specs.declared.Settings.{Settings}
use Rattle.settings.specs.declared.Limits.{Limits}
use Rattle.settings.specs.declared.Span.{Span}
use Rattle.axes.proofs.Every.{Every}
use Rattle.axes.proofs.Places.{neither, both}
use Rattle.arcs.specs.Arcs.{arc_records}
use Rattle.straying.specs.Rows.{ArcsKeep}
use Rattle.arcs.specs.declared.Arc.{Arc}
use Rattle.straying.proofs.Rows.{Plain, Kept, none, other, plain_kept, arc_kept, joined_kept, arcs_keep}
use Rattle.cycles.specs.Cycle.{records}
use Rattle.state.specs.Modal.{block_motion, settled}
use Rattle.targets.specs.Target.{offset_of}
use Rattle.state.specs.declared.State.{State}
use Rattle.deeds.specs.Deed.{has_path, deed_of}
use Rattle.deeds.specs.Known.{Right}
use Rattle.scaling.specs.Wanted.{arc_wanted}
use Rattle.deeds.specs.declared.Deed.{Deed}
use Rattle.deeds.specs.declared.Deed.TheVariants as deed
use Rattle.scaling.specs.declared.Sending.{Sending}
use Rattle.deeds.proofs.Made.{Starts, starts}
use Rattle.deeds.proofs.Wanted.{is_arc_wanted}
use Rattle.asking.specs.Judge.{asks_of, doing}
use Rattle.interpreter.specs.of_writing.Writes.{one_if, speed_of, tool_of, m_of, speed_and_tool, spindle_and_coolant, moved, done, stops, stopping, writes}
use Rattle.interpreter.specs.of_verdicts.Verdicts.{sending_of, deed_in, asks_in, alarm_in}
use Rattle.interpreter.proofs.of_verdicts.Passing.{all_passed, right_in}
use Rattle.interpreter.specs.of_machine.Blocks.{done_records}
use Rattle.interpreter.proofs.of_machine.Running.{stands_inside}
use Rattle.ahead.specs.Ahead.{most_calls, onto}
use Rattle.ahead.specs.declared.ProgramAt.{ProgramAt}
use Rattle.interpreter.specs.of_taking.Steps.{Task, task_of, Step, block_on, run_after}
use Rattle.interpreter.specs.of_taking.declared.Run.{Run}
use Rattle.interpreter.specs.of_runners.Runs.{records_of, program_run}
use Rattle.interpreter.proofs.of_runners.Going.{listed_whats}
use Rattle.interpreter.specs.of_answers.Answers.{start_of}
use Rattle.interpreter.specs.Answers.{Result, refused, result_of, main_at, interpretation}
use Rattle.demands.specs.Steps.{Linked}
use Rattle.demands.specs.Arcs.{ArcsOwed, ArcsOwedIn, ArcPromise, ArcPromiseInBuffer, OpensArc, arc_in, Beside, AllBeside, Written, ArcsWritten, ArcsWrittenInBuffer}
use Rattle.demands.proofs.Buffers.{every_read}
use Rattle.demands.proofs.Demands.{every_run, each_from}
use Rattle.demands.proofs.Holding.{all_owed}
use Rattle.demands.proofs.DeedKinds.{OfKinds, Told, cycle_each, deed_told}
use Rattle.demands.proofs.Linked.{free_own, program_leads}
use Rattle.demands.proofs.Results.{every_result}
use Rattle.demands.proofs.Standing.{block_stands}

-- ---- records beside a deed's: no arc and no centre, and the axes stand where they stood
abbrev Still : ℤ → ℤ → Record → Type 0
Still x z r = Plain r × ((r.x ≡ x) × (r.z ≡ z))

still_kept : (l : Limits) (x z : ℤ) (v : List Record) {w : List Record} → Every (Still x z) v → Kept l x z w → Kept l x z (v ++ w)
still_kept l x z [] h k = k
still_kept l x z (r ∷ v) {w} h k = other r (v ++ w) h.0.0 (subst₂ (λ (a b : ℤ). Kept l a b (v ++ w)) (sym h.0.1.0) (sym h.0.1.1) (still_kept l x z v h.1 k))

one_still : (x z : ℤ) (t : Bool) (r : Record) → Still x z r → Every (Still x z) (one_if t r)
unfolding one_if
one_still x z true r h = (h, tt)
one_still x z false r h = tt

both_still : (x z : ℤ) (v w : List Record) → Every (Still x z) v → Every (Still x z) w → Every (Still x z) (v ++ w)
both_still x z [] w h k = k
both_still x z (r ∷ v) w h k = (h.0, both_still x z v w h.1 k)

plain_of : (x z : ℤ) (v : List Record) → Every (Still x z) v → Every Plain v
plain_of x z [] h = tt
plain_of x z (r ∷ v) h = (h.0.0, plain_of x z v h.1)

module _ (u : State) (b : Block) where
  before_still : Every (Still u.x u.z) (speed_and_tool u b)
  unfolding speed_and_tool speed_of tool_of
  before_still =
      both_still u.x u.z (one_if (has b s_slot) (speed_of u b)) (one_if (has b t_slot) (tool_of u b))
      (one_still u.x u.z (has b s_slot) (speed_of u b) ((refl, refl), (refl, refl))) (one_still u.x u.z (has b t_slot) (tool_of u b) ((refl, refl), (refl, refl)))

  m_still : (k : ℕ) → Still u.x u.z (m_of u b k)
  unfolding m_of
  m_still k = ((refl, refl), (refl, refl))

  switched_still : Every (Still u.x u.z) (spindle_and_coolant u b)
  unfolding spindle_and_coolant
  switched_still =
      both_still u.x u.z (one_if (has b spindle_slot) (m_of u b spindle_slot)) (one_if (has b coolant_slot) (m_of u b coolant_slot))
      (one_still u.x u.z (has b spindle_slot) (m_of u b spindle_slot) (m_still spindle_slot)) (one_still u.x u.z (has b coolant_slot) (m_of u b coolant_slot) (m_still coolant_slot))

  stop_still : Every (Still u.x u.z) (stopping u b)
  unfolding stopping
  stop_still = one_still u.x u.z (stops b) (m_of u b flow_slot) (m_still flow_slot)

-- ---- the records of a deed that 19 and 18 have passed, from a place within the limits
plain_kinds : OfKinds Plain
plain_kinds = record { rapid = λ x z. (refl, refl); feed = λ x z f g95. (refl, refl); thread = λ x z pitch. (refl, refl); dwell = λ x z tenths. (refl, refl) }

doing_kept : (l : Limits) (u : State) (d : Deed) (s : Sending) → s.x ≡ u.x → s.z ≡ u.z → Starts d s → Told Plain d → Right d → (asks_of d l).outside ≡ false
    → outside l u.x u.z ≡ false → Kept l u.x u.z (doing d)
unfolding asks_of doing
doing_kept l u deed.Nothing s x z h p e o i = none
doing_kept l u deed.Nowhere s x z h p e o i = none
doing_kept l u (deed.Dwell r) s x z h p e o i = plain_kept (r ∷ []) (p, tt)
doing_kept l u (deed.Straight m) s x z h p e o i = plain_kept (m.goes ∷ []) (p, tt)
doing_kept l u (deed.Round r) s x z h p e o i =
    let sx = h.0 ∙ x in
    let sz = h.1 ∙ z in
    arc_kept r.arc r.f r.g95 (sym sx) (sym sz) (record { start = (λ j. outside l (sx j) (sz j)) ∙ i; even = e; stays = o })
doing_kept l u (deed.Cycle c) s x z h p e o i = plain_kept (records c) (cycle_each Plain plain_kinds c e)

-- ---- one block
module _ (table : List ℤ) (set : Settings) (s : State) (b : Block) (left : ℕ) (well : alarm_in table set s b left ≡ 0) where
  block_kept : outside set.limits s.x s.z ≡ false → Kept set.limits s.x s.z (done_records table set s b)
  unfolding done_records writes deed_in sending_of settled asks_in
  block_kept i =
      let t = settled s b in
      let d = deed_in table set s b in
      let g = sending_of table set s b in
      let k = block_motion s.motion b in
      let own = doing_kept set.limits t d g refl refl (starts b g k) (deed_told Plain plain_kinds b g k) (right_in table set s b left well) (all_passed table set s b left well).inside i in
      still_kept set.limits s.x s.z (speed_and_tool t b) (before_still t b)
      (still_kept set.limits s.x s.z (spindle_and_coolant t b) (switched_still t b)
      (joined_kept (stopping (done t d) b) own (plain_kept (stopping (done t d) b) (plain_of (done t d).x (done t d).z (stopping (done t d) b) (stop_still (done t d) b)))))

-- ---- along the steps of a run, which stays within the limits
chain_kept : (t : Task) (sts : List Step) (r s : Run) → outside t.settings.limits r.state.x r.state.z ≡ false → Linked t r sts s
    → Kept t.settings.limits r.state.x r.state.z (records_of sts)
unfolding Linked run_after records_of
chain_kept t [] r s i l = none
chain_kept t (st ∷ sts) r s i l =
    let set = t.settings in
    let b = block_on t.tape st.place in
    let left = t.room - r.count in
    let well = free_own t (onto l.0.frame st.place) r l.0.free in
    let wrote = l.0.wrote in
    let x = ap (last_of (λ q. q.x) r.state.x) wrote ∙ block_stands false t.table set r.state b in
    let z = ap (last_of (λ q. q.z) r.state.z) wrote ∙ block_stands true t.table set r.state b in
    let more = chain_kept t sts (run_after t st.place r) s (stands_inside t.table set r.state b left well i) l.1 in
    joined_kept (records_of sts) (subst (Kept set.limits r.state.x r.state.z) (sym wrote) (block_kept t.table set r.state b left well i))
    (subst₂ (λ (x z : ℤ). Kept set.limits x z (records_of sts)) (sym x) (sym z) more)

-- ---- alarm 1 has asked it of the start
span_inside : (s : Span) (start : ℤ) → span_wrong s start ≡ false → outside_span s start ≡ false
unfolding span_wrong
span_inside s start e =
    let behind = (neither (not (in_table s.lowest) || not (in_table s.highest)) ((not (in_table start) || lt_z s.highest s.lowest) || outside_span s start) e).1 in
    (neither (not (in_table start) || lt_z s.highest s.lowest) (outside_span s start) behind).1

starts_inside : (table : List ℤ) (set : Settings) → settings_wrong table set ≡ false → outside set.limits set.x set.z ≡ false
unfolding settings_wrong outside
starts_inside table set e =
    let table_or_numbers = (table_wrong table || ltb greatest_retract set.retract) || ltb greatest_empty_cuts set.empty_cuts in
    let spans = span_wrong set.limits.x set.x || span_wrong set.limits.z set.z in
    let programs = numbers_wrong set.main set.lowest_subroutine in
    let s = neither (span_wrong set.limits.x set.x) (span_wrong set.limits.z set.z) (neither spans programs (neither table_or_numbers (spans || programs) e).1).0 in
    both (outside_span set.limits.x set.x) (outside_span set.limits.z set.z) (span_inside set.limits.x set.x s.0) (span_inside set.limits.z set.z s.1)

-- ---- an alarm before any block is begun has no records
pub none_owed : (set : Settings) (alarm place : ℕ) → ArcsOwed set (refused alarm place)
unfolding records_of
none_owed set alarm place = arcs_keep none

pub none_owed_in : (set : Settings) (b : List ℕ) (alarm place : ℕ) → ArcsOwedIn set b (refused alarm place)
unfolding row_in whats
none_owed_in set b alarm place = arcs_keep none

-- ---- of every input
module _ (tape : List ℕ) (table : List ℤ) (set : Settings) (size : ℕ) where
  record Shown (x : Result) : Type 0 where
    records : Kept set.limits set.x set.z (records_of x.steps)

  none_shown : (alarm place : ℕ) → Shown (refused alarm place)
  unfolding records_of
  none_shown alarm place = record { records = none }

  run_shown : (t : Task) → t.settings ≡ with_points false set → outside set.limits set.x set.z ≡ false → (p : ProgramAt) → p.line < length t.tape
      → Shown (result_of (program_run t p most_calls (start_of (with_points false set))))
  unfolding result_of
  run_shown t same inside p on =
      let r = start_of (with_points false set) in
      let x = program_run t p most_calls r in
      let l = (program_leads t p most_calls r on).linked in
      let at : outside t.settings.limits set.x set.z ≡ false = (λ i. outside (same i).limits set.x set.z) ∙ inside in
      record { records = subst (λ (l : Settings). Kept l.limits set.x set.z (records_of x.steps)) same (chain_kept t x.steps r x.outcome.run at l) }

  shown : (bytes : ℕ) → Shown (interpretation tape table set size bytes)
  shown bytes =
      every_result (λ _. Shown) tape table set size bytes (λ _ alarm place _ _ _. none_shown alarm place)
      (λ _ _ w _ first end p on _. run_shown (task_of (take end tape) table (with_points false set) first bytes) refl (starts_inside table set w) (main_at set p) on)

  pub arc_promise : (bytes : ℕ) → ArcPromise tape table set size bytes
  arc_promise bytes = arcs_keep (shown bytes).records

  pub arc_promise_in_buffer : (b : List ℕ) → ArcPromiseInBuffer tape table set size b
  arc_promise_in_buffer b =
      let read = ap whats (all_owed tape table set size b).holds.records ∙ listed_whats (interpretation tape table set size (length b)).steps in
      subst (ArcsKeep set.limits set.x set.z) (sym read) (arc_promise (length b))

-- ---- which arc a block writes
-- a path word, in the promise's words and in the deed's
path_is : (x z u w : Bool) → (x || (z || (u || (w || false)))) ≡ true → ((x || u) || (z || w)) ≡ true
path_is true z u w e = refl
path_is false true true w e = refl
path_is false true false w e = refl
path_is false false true w e = refl
path_is false false false true e = refl
path_is false false false false e = absurd (subst T (sym e) tt)

has_path_lem : (b : Block) → any_in b path_slots ≡ true → has_path b ≡ true
unfolding any_of has_path
has_path_lem b e = path_is (has b x_slot) (has b z_slot) (has b u_slot) (has b w_slot) e

one_beside : (u : State) (t : Bool) (r : Record) → Beside u.x u.z r → AllBeside u.x u.z (one_if t r)
unfolding one_if
one_beside u true r h = (h, tt)
one_beside u false r h = tt

both_beside : (x z : ℤ) (v w : List Record) → AllBeside x z v → AllBeside x z w → AllBeside x z (v ++ w)
both_beside x z [] w h k = k
both_beside x z (r ∷ v) w h k = (h.0, both_beside x z v w h.1 k)

module _ (u : State) (b : Block) where
  m_beside : (k : ℕ) → Beside u.x u.z (m_of u b k)
  unfolding m_of
  m_beside k = record { kind = refl; on_x = refl; on_z = refl }

  before_beside : AllBeside u.x u.z (speed_and_tool u b ++ spindle_and_coolant u b)
  unfolding speed_and_tool spindle_and_coolant speed_of tool_of
  before_beside =
      both_beside u.x u.z (speed_and_tool u b) (spindle_and_coolant u b)
      (both_beside u.x u.z (one_if (has b s_slot) (speed_of u b)) (one_if (has b t_slot) (tool_of u b))
      (one_beside u (has b s_slot) (speed_of u b) (record { kind = refl; on_x = refl; on_z = refl })) (one_beside u (has b t_slot) (tool_of u b) (record { kind = refl; on_x = refl; on_z = refl })))
      (both_beside u.x u.z (one_if (has b spindle_slot) (m_of u b spindle_slot)) (one_if (has b coolant_slot) (m_of u b coolant_slot))
      (one_beside u (has b spindle_slot) (m_of u b spindle_slot) (m_beside spindle_slot)) (one_beside u (has b coolant_slot) (m_of u b coolant_slot) (m_beside coolant_slot)))

  stop_beside : AllBeside u.x u.z (stopping u b)
  unfolding stopping
  stop_beside = one_beside u (stops b) (m_of u b flow_slot) (m_beside flow_slot)

module _ (clockwise : Bool) (table : List ℤ) (set : Settings) (s : State) (b : Block) (opens : OpensArc clockwise s b) where
  abbrev t : State
  t = settled s b

  abbrev a : Arc
  a = arc_in clockwise table s b

  -- its deed is that arc
  arc_deed : deed_in table set s b ≡ deed.Round (record { arc = a; f = t.f; g95 = t.g95 })
  unfolding deed_in deed_of sending_of arc_in
  arc_deed =
      ap (λ (k : keeping.Kept). deed_of k b (sending_of table set s b)) opens.motion
      ∙ is_arc_wanted clockwise b t (offset_of table t) set.retract set.empty_cuts (has_path_lem b opens.path)

  abbrev ended : State
  ended = moved t t.rapid_due a.end.x a.end.z

  behind_is : stopping (done t (deed_in table set s b)) b ≡ stopping ended b
  unfolding done
  behind_is = ap (λ (d : Deed). stopping (done t d) b) arc_deed

  pub block_written : Written clockwise table s b (done_records table set s b)
  unfolding done_records writes doing arc_in arc_wanted moved
  block_written =
      let v = speed_and_tool t b in
      let w = spindle_and_coolant t b in
      record {
        before = v ++ w;
        behind = stopping ended b;
        are = (λ i. v ++ (w ++ (doing (arc_deed i) ++ behind_is i))) ∙ sym (append_assoc v w (arc_records a t.f t.g95 ++ stopping ended b));
        starts = before_beside t b;
        ends = stop_beside ended b;
      }

abbrev Arced : Task → State → Block → List Record → Type 0
Arced t s b rs = (clockwise : Bool) → OpensArc clockwise s b → Written clockwise t.table s b rs

arced : (t : Task) (s : State) (b : Block) (left : ℕ) → alarm_in t.table t.settings s b left ≡ 0 → Arced t s b (done_records t.table t.settings s b)
arced t s b left well clockwise opens = block_written clockwise t.table t.settings s b opens

module _ (tape : List ℕ) (table : List ℤ) (set : Settings) (size : ℕ) where
  pub arcs_written : (bytes : ℕ) → ArcsWritten tape table set size bytes
  arcs_written bytes = (every_run Arced arced tape table set size bytes).steps

  pub arcs_written_in_buffer : (b : List ℕ) → ArcsWrittenInBuffer tape table set size b
  arcs_written_in_buffer b =
      each_from (λ st k h clockwise opens. record { stands = h.0; written = h.1 clockwise opens }) 0 (interpretation tape table set size (length b)).steps (every_read Arced arced tape table set size b).steps
