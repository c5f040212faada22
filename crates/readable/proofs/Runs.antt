-- The records of every run are right in their row, and so every list that a run writes is read back.
-- Assumes nothing.
use mathlib.Core.Path.{◌≡◌, refl, ap, ◌∙◌, subst}
use mathlib.Core.Bool.{Bool, true, false}
use mathlib.Core.List.{List, [], ◌∷◌, ◌++◌}
use Prim.Native.Nat.{ℕ, ◌-◌, ◌<◌}
use lib.IntN.{ℤ}
use lib.ListN.{length, take}
use Rattle.moves.specs.declared.Record.{Record}
use Rattle.lawful.specs.Right.{right_from, right_row, Lawful}
use Rattle.readback.specs.Laws.{WrittenForm}
use Rattle.readback.proofs.Laws.{written_is_read}
use Rattle.settings.specs.Known.{InRange}
use Rattle.settings.specs.declared.Settings.{Settings}
use Rattle.block.specs.Slots.{has, s_slot, t_slot, spindle_slot, flow_slot, coolant_slot, code_in}
use Rattle.block.specs.Worded.{Worded}
use Rattle.block.specs.declared.Block.{Block}
use Rattle.state.specs.Modal.{block_motion, settled}
use Rattle.state.specs.Known.{Sound}
use Rattle.state.specs.declared.State.{State}
use Rattle.targets.proofs.Ranges.{settled_sound, start_sound}
use Rattle.deeds.proofs.Made.{starts}
use Rattle.asking.specs.Judge.{doing}
use Rattle.demands.specs.of_writing.Writes.{one_if, speed_of, tool_of, m_of, speed_and_tool, spindle_and_coolant, done, stops, stopping, writes}
use Rattle.demands.specs.of_verdicts.Verdicts.{sending_of, deed_in, asks_in, alarm_in}
use Rattle.demands.proofs.of_verdicts.Passing.{all_passed, right_in}
use Rattle.demands.proofs.of_verdicts.Sent.{centred}
use Rattle.demands.specs.of_machine.Blocks.{done_records, done_state}
use Rattle.demands.proofs.of_machine.Running.{sound_after}
use Rattle.ahead.specs.Ahead.{most_calls, onto}
use Rattle.ahead.specs.declared.ProgramAt.{ProgramAt}
use Rattle.demands.specs.of_taking.Steps.{Task, task_of, Step, block_on, run_after}
use Rattle.demands.specs.of_taking.declared.Run.{Run}
use Rattle.demands.proofs.of_taking.Lines.{worded_on}
use Rattle.demands.specs.of_runners.Runs.{records_of, program_run}
use Rattle.demands.proofs.of_runners.Going.{listed_whats}
use Rattle.demands.specs.of_answers.Answers.{start_of, number_of, count_of}
use Rattle.demands.specs.of_interpreter.Answers.{Result, main_at, refused, result_of, interpretation, buffer_of}
use Rattle.settings.specs.Points.{with_points}
use Rattle.demands.specs.Demands.{IsList}
use Rattle.demands.specs.Steps.{Linked}
use Rattle.demands.proofs.DeedKinds.{deed_told}
use Rattle.demands.proofs.Linked.{free_own, program_leads}
use Rattle.demands.proofs.Results.{every_result}
use Rattle.demands.proofs.Holding.{demand_two}
use Rattle.readable.specs.Readable.{list_after, records_run, ListIsRead}
use Rattle.readable.proofs.Usual.{Usual, tool_usual, m_usual, speed_usual, usual_kinds}
use Rattle.readable.proofs.Inside.{Sane, row_right, joined_right, deed_right, deed_centres}

-- ---- the records of a block
one_right : (t : Bool) (r : Record) → Sane r → right_row (one_if t r) ≡ true
unfolding one_if right_from
one_right true r h = row_right (r ∷ []) (h, tt)
one_right false r h = refl

module _ (table : List ℤ) (set : Settings) (s : State) (b : Block) (range : InRange set) (h : Sound s) (w : Worded b) (left : ℕ) (well : alarm_in table set s b left ≡ 0) where
  abbrev t : State
  t = settled s b

  stands : Sound t
  stands = settled_sound s b h

  before_right : right_row (speed_and_tool t b) ≡ true
  unfolding speed_and_tool speed_of tool_of
  before_right =
      joined_right (one_if (has b s_slot) (speed_of t b)) (one_if (has b t_slot) (tool_of t b))
      (one_right (has b s_slot) (speed_of t b) (speed_usual t.x t.z (code_in b s_slot) t.g96, (stands.x, stands.z)))
      (one_right (has b t_slot) (tool_of t b) (tool_usual t.x t.z (code_in b t_slot), (stands.x, stands.z)))

  m_sane : (u : State) → Sound u → (k : ℕ) → Sane (m_of u b k)
  unfolding m_of
  m_sane u v k = (m_usual u.x u.z (code_in b k), (v.x, v.z))

  switched_right : right_row (spindle_and_coolant t b) ≡ true
  unfolding spindle_and_coolant
  switched_right =
      joined_right (one_if (has b spindle_slot) (m_of t b spindle_slot)) (one_if (has b coolant_slot) (m_of t b coolant_slot))
      (one_right (has b spindle_slot) (m_of t b spindle_slot) (m_sane t stands spindle_slot)) (one_right (has b coolant_slot) (m_of t b coolant_slot) (m_sane t stands coolant_slot))

  own_right : right_row (doing (deed_in table set s b)) ≡ true
  unfolding deed_in sending_of asks_in
  own_right =
      let d = deed_in table set s b in
      let g = sending_of table set s b in
      let k = block_motion s.motion b in
      deed_right set range d g (right_in table set s b left well) (starts b g k) (deed_told Usual usual_kinds b g k) (deed_centres b g (centred table set s b h w) k) stands.x stands.z (all_passed table set s b left well).inside

  after_right : right_row (stopping (done_state table set s b) b) ≡ true
  unfolding stopping
  after_right =
      let u = done_state table set s b in
      one_right (stops b) (m_of u b flow_slot) (m_sane u (sound_after table set s b left well range h) flow_slot)

  block_right : right_row (done_records table set s b) ≡ true
  unfolding done_records writes done_state
  block_right =
      let d = deed_in table set s b in
      joined_right (speed_and_tool t b) (spindle_and_coolant t b ++ (doing d ++ stopping (done t d) b)) before_right
      (joined_right (spindle_and_coolant t b) (doing d ++ stopping (done t d) b) switched_right (joined_right (doing d) (stopping (done t d) b) own_right after_right))

-- ---- along the steps of a run
module _ (t : Task) (range : InRange t.settings) where
  chain_right : (sts : List Step) (r s : Run) → Sound r.state → Linked t r sts s → right_row (records_of sts) ≡ true
  unfolding Linked run_after records_of right_from
  chain_right [] r s h l = refl
  chain_right (st ∷ sts) r s h l =
      let b = block_on t.tape st.place in
      let k = free_own t (onto l.0.frame st.place) r l.0.free in
      joined_right st.records (records_of sts)
      (ap right_row l.0.wrote ∙ block_right t.table t.settings r.state b range h (worded_on t.tape st.place) (t.room - r.count) k)
      (chain_right sts (run_after t st.place r) s (sound_after t.table t.settings r.state b (t.room - r.count) k range h) l.1)

-- ---- of every input
module _ (tape : List ℕ) (table : List ℤ) (set : Settings) (size : ℕ) (b : List ℕ) where
  record Shown (x : Result) : Type 0 where
    records : right_row (records_of x.steps) ≡ true

  none_shown : (alarm place : ℕ) → Shown (refused alarm place)
  unfolding records_of right_from
  none_shown alarm place = record { records = refl }

  run_shown : (t : Task) → InRange t.settings → Sound (start_of t.settings).state → (p : ProgramAt) → p.line < length t.tape → Shown (result_of (program_run t p most_calls (start_of t.settings)))
  unfolding result_of
  run_shown t range sound p on =
      let r = start_of t.settings in
      let x = program_run t p most_calls r in
      record { records = chain_right t range x.steps r x.outcome.run sound (program_leads t p most_calls r on).linked }

  shown : Shown (interpretation tape table set size (length b))
  shown =
      every_result (λ _. Shown) tape table set size (length b) (λ _ alarm place _ _ _. none_shown alarm place)
      (λ h _ _ k first end p on _. run_shown (task_of (take end tape) table (with_points false set) first (length b)) k.range (start_sound set.x set.z k.starts.x k.starts.z) (main_at set p) on)

  -- EVERY LIST THAT A RUN WRITES IS READ BACK
  pub list_is_read : ListIsRead tape table set size b
  list_is_read count e =
      let l : IsList count (buffer_of tape table set size b) (records_run tape table set size b) =
      subst (λ (n : ℕ). IsList n (buffer_of tape table set size b) (records_run tape table set size b)) (ap count_of e) (demand_two tape table set size b (ap number_of e)) in
      let lawful : Lawful (records_run tape table set size b) = record { few = l.lawful.few; each = l.lawful.each; right = ap right_row (listed_whats (interpretation tape table set size (length b)).steps) ∙ shown.records } in
      let form : WrittenForm (list_after tape table set size b count) (records_run tape table set size b) = record { lawful = lawful; bytes = l.written } in
      (form, written_is_read (list_after tape table set size b count) (records_run tape table set size b) form)
