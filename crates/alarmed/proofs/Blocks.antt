-- A block's alarm is the first of its order.
-- Assumes nothing.
use mathlib.Core.Path.{◌≡◌, refl, sym, ap, ◌∙◌}
use mathlib.Core.Bool.{Bool, true, false, cond, not, ◌&&◌, ◌||◌}
use Prim.Native.Nat.{ℕ, zero, suc, ◌+◌, ◌-◌}
use native.Mathlib.Omega.{arith}
use lib.Dec.{leb, ltb, eqb}
use lib.ListN.{length}
use borrow.Author.Tests.{lt-ltb, le-ltb, ltb-true, ltb-false, eq-eqb, ne_eqb, le-leb, lt-leb}
use Rattle.alarms.specs.Numbers.{program_missing, block_missing, too_deep, too_many_begun, wrong_end, no_motion, not_rapid, bad_feed, outside_limits, bad_lengths, no_room}
use Rattle.moves.specs.declared.Record.{Record}
use Rattle.settings.specs.Wrong.{highest_subroutine}
use Rattle.settings.specs.Limits.{outside}
use Rattle.settings.specs.declared.Limits.{Limits}
use Rattle.tape.specs.Lines.{lines}
use Rattle.codes.specs.declared.Motion.TheVariants as motion
use Rattle.acts.specs.declared.Kept.{Kept}
use Rattle.acts.specs.declared.Kept.TheVariants as kept
use Rattle.block.specs.declared.Block.{Block}
use Rattle.finding.specs.Finding.{find_program, block_of_program}
use Rattle.places.specs.declared.Found.{Found}
use Rattle.places.specs.declared.Found.TheVariants.{At, Nowhere}
use Rattle.axes.specs.Limits.{any_outside}
use Rattle.arcs.specs.Arcs.{uneven}
use Rattle.straying.specs.Straying.{straying}
use Rattle.cycles.specs.Cycle as cycle
use Rattle.cycles.specs.Feeds.{least_of_feed}
use Rattle.cycles.specs.declared.Cycle as cycles
use Rattle.state.specs.Modal.{settled, block_motion}
use Rattle.requests.specs.Request.{request_of}
use Rattle.requests.specs.declared.Request.{Request}
use Rattle.requests.specs.declared.Request.TheVariants as asks
use Rattle.deeds.specs.Deed.{has_path, has_centre, straight_if, round_of, round_if, move_of, deed_of}
use Rattle.deeds.specs.declared.Deed.{Deed}
use Rattle.deeds.specs.declared.Deed.TheVariants.{Nothing, Nowhere as Aimless, Dwell, Straight, Round, Cycle}
use Rattle.scaling.specs.declared.Sending.{Sending}
use Rattle.asking.specs.Judge.{refused as refused_cycle, of_records, asks_of, feed_wrong, room_wrong, alarm_of, doing}
use Rattle.asking.specs.declared.Asked.{Asked}
use Rattle.demands.specs.of_writing.Writes.{writes, other_count}
use Rattle.demands.proofs.of_writing.Chain.{writes_length}
use Rattle.demands.specs.of_verdicts.Verdicts.{sending_of, deed_in, asks_in, asked_in, alarm_in}
use Rattle.demands.specs.of_machine.Blocks.{done_records}
use Rattle.ahead.specs.Ahead.{most_calls, called_at, jumped_to, looked_by, looked_up}
use Rattle.ahead.specs.declared.Frame.{Frame}
use Rattle.ahead.specs.declared.ProgramAt.{ProgramAt}
use Rattle.ahead.specs.declared.Onward.{Onward}
use Rattle.ahead.specs.declared.Onward.TheVariants.{On, Call, Jump, Return, End, Stop}
use Rattle.demands.specs.of_taking.Steps.{Task, block_on, onward_by, alarm_by, alarm_at}
use Rattle.demands.specs.of_taking.declared.Run.{Run}
use Rattle.alarmed.specs.Order.{Passes, Refused}
use Rattle.alarmed.specs.Tests.{Begun, none_left, ends_badly, end_bad, nowhere, calls, call_bad, jumps, jump_bad, deepens, call_deep, is_none, is_straight, lacks_motion, motionless, other_traverse, rapid_missing, least_feed, feed_bad, wrong_lengths, lengths_bad, goes_outside, outside_bad, records_of, overfull, block_order}
use Rattle.alarmed.proofs.Orders.{first, Above, passes, refused}

-- ---- 15 to 20
-- a path word, or I or K, with no motion function, or I or K with a kept one that is no arc, and nothing else, leads nowhere
straight_aims : (b : Block) (g00 : Bool) (least : ℕ) (r : Record) (l : Limits) → has_centre b ≡ (asks_of (straight_if b g00 least r) l).nowhere
unfolding straight_if asks_of
straight_aims b g00 least r l = by (has_centre b) (has_path b)
  where
    by : (centre path : Bool) → centre ≡ (asks_of (cond centre Aimless (cond path (Straight (record { rapid = g00; least = least; goes = r })) Nothing)) l).nowhere
    by true path = refl
    by false true = refl
    by false false = refl

round_aims : (clockwise : Bool) (b : Block) (s : Sending) (l : Limits) → false ≡ (asks_of (round_if clockwise b s) l).nowhere
unfolding round_if asks_of
round_aims clockwise b s l = by (has_path b)
  where
    by : (path : Bool) → false ≡ (asks_of (cond path (Round (round_of clockwise b s)) Nothing) l).nowhere
    by true = refl
    by false = refl

dwell_aims : (r : Record) (l : Limits) → (asks_of (Dwell r) l).nowhere ≡ false
unfolding asks_of
dwell_aims r l = refl

cycle_aims : (c : cycles.Cycle) (l : Limits) → (asks_of (Cycle c) l).nowhere ≡ false
unfolding asks_of
cycle_aims c l = by (cycle.wrong c)
  where
    by : (w : Bool) → (cond w (refused_cycle c) (of_records c l)).nowhere ≡ false
    by true = refl
    by false = refl

path_aims : (path : Bool) (l : Limits) → path ≡ (asks_of (cond path Aimless Nothing) l).nowhere
unfolding asks_of
path_aims true l = refl
path_aims false l = refl

or_no : (t : Bool) → (t || false) ≡ t
or_no true = refl
or_no false = refl

aims : (m : Kept) (b : Block) (s : Sending) (l : Limits) → lacks_motion m b ≡ (asks_of (deed_of m b s) l).nowhere
unfolding is_none is_straight lacks_motion deed_of move_of
aims kept.Nothing b s l = or_no (has_path b || has_centre b) ∙ path_aims (has_path b || has_centre b) l
aims (kept.Of motion.Rapid) b s l = straight_aims b _ _ _ l
aims (kept.Of motion.Feed) b s l = straight_aims b _ _ _ l
aims (kept.Of motion.Clockwise) b s l = round_aims true b s l
aims (kept.Of motion.Counterclockwise) b s l = round_aims false b s l
aims (kept.Of motion.Thread) b s l = straight_aims b _ _ _ l
aims (kept.Of motion.Dwell) b s l = sym (dwell_aims _ l)
aims (kept.Of motion.Turning) b s l = sym (cycle_aims _ l)
aims (kept.Of motion.Threading) b s l = sym (cycle_aims _ l)
aims (kept.Of motion.Grooving) b s l = sym (cycle_aims _ l)
aims (kept.Of motion.ChipBreaking) b s l = sym (cycle_aims _ l)
aims (kept.Of motion.Redrawing) b s l = sym (cycle_aims _ l)

-- 20, of what is left and of what there is
room_same : (room count n : ℕ) → (ltb 0 n && ltb room (count + n)) ≡ (ltb 0 n && ltb (room - count) n)
room_same room count zero = refl
room_same room count (suc n) = by (ltb room (count + suc n)) refl
  where
    by : (t : Bool) → ltb room (count + suc n) ≡ t → (ltb 0 (suc n) && t) ≡ (ltb 0 (suc n) && ltb (room - count) (suc n))
    by true e = ap (λ (x : Bool). ltb 0 (suc n) && x) (sym (lt-ltb (room - count) (suc n) (omega (arith, ltb-true room (count + suc n) e))))
    by false e = ap (λ (x : Bool). ltb 0 (suc n) && x) (sym (le-ltb (room - count) (suc n) (omega (arith, ltb-false room (count + suc n) e))))

-- the records of a deed, where it is right, are counted
module _ (l : Limits) (due : Bool) (f other room count : ℕ) where
  abbrev asked : Asked
  asked = record { rapid_due = due; f = f; other_count = other; room_left = room - count }

  abbrev over : ℕ → Bool
  over n = ltb 0 n && ltb room (count + n)

  abbrev behind_nowhere : Deed → ℕ → ℕ
  behind_nowhere d n =
      cond (due && other_traverse d) not_rapid
      (cond (feed_wrong (least_feed d) f) bad_feed (cond (wrong_lengths d) bad_lengths (cond (goes_outside l d) outside_limits (cond (over n) no_room 0))))

  same_room : {n m : ℕ} → n ≡ m → over n ≡ (ltb 0 m && ltb (room - count) m)
  same_room {n} {m} e = room_same room count n ∙ ap (λ (k : ℕ). ltb 0 k && ltb (room - count) k) e

  -- a cycle, by whether it is wrong
  cycle_first : (c : cycles.Cycle) (n : ℕ) → over n ≡ room_wrong (length (cycle.records c)) asked → (w : Bool)
      → cond (due && true) not_rapid (cond (feed_wrong (cycle.least_feed c) f) bad_feed (cond w bad_lengths (cond (any_outside l (cycle.records c)) outside_limits (cond (over n) no_room 0))))
      ≡ alarm_of (cond w (refused_cycle c) (of_records c l)) asked
  unfolding alarm_of
  cycle_first c n e true = refl
  cycle_first c n e false =
      ap (λ (t : Bool). cond (due && true) not_rapid (cond (feed_wrong (cycle.least_feed c) f) bad_feed (cond (any_outside l (cycle.records c)) outside_limits (cond t no_room 0)))) e

  deed_first : (d : Deed) (n : ℕ) → n ≡ length (doing d) + other → cond (asks_of d l).nowhere no_motion (behind_nowhere d n) ≡ alarm_of (asks_of d l) asked
  unfolding asks_of alarm_of doing other_traverse least_feed wrong_lengths goes_outside any_outside
  deed_first Nothing n e = ap (λ (t : Bool). cond (due && false) not_rapid (cond (feed_wrong 0 f) bad_feed (cond t no_room 0))) (same_room e)
  deed_first Aimless n e = refl
  deed_first (Dwell r) n e = ap (λ (t : Bool). cond (due && false) not_rapid (cond (feed_wrong 0 f) bad_feed (cond t no_room 0))) (same_room e)
  deed_first (Straight m) n e =
      ap (λ (t : Bool). cond (due && not m.rapid) not_rapid (cond (feed_wrong m.least f) bad_feed (cond (outside l m.goes.x m.goes.z) outside_limits (cond t no_room 0)))) (same_room e)
  deed_first (Round r) n e =
      ap (λ (t : Bool). cond (due && true) not_rapid (cond (feed_wrong least_of_feed f) bad_feed (cond (uneven r.arc) bad_lengths (cond (straying l r.arc) outside_limits (cond t no_room 0))))) (same_room e)
  deed_first (Cycle c) n e = go (cycle.wrong c)
    where
      go : (w : Bool) → cond (cond w (refused_cycle c) (of_records c l)).nowhere no_motion
          (cond (due && true) not_rapid (cond (feed_wrong (cycle.least_feed c) f) bad_feed (cond w bad_lengths (cond (any_outside l (cycle.records c)) outside_limits (cond (over n) no_room 0)))))
          ≡ alarm_of (cond w (refused_cycle c) (of_records c l)) asked
      go true = cycle_first c n (same_room e) true
      go false = cycle_first c n (same_room e) false

-- ---- 13 to 12: what is asked of the runner
module _ (t : Task) (f : Frame) (deep : ℕ) (known : deep + f.calls_left ≡ most_calls) (own : ℕ) where
  main_is : eqb f.calls_left most_calls ≡ eqb deep 0
  main_is = by deep known
    where
      by : (n : ℕ) → n + f.calls_left ≡ most_calls → eqb f.calls_left most_calls ≡ eqb n 0
      by zero e = eq-eqb f.calls_left most_calls (omega (arith, e))
      by (suc n) e = ne_eqb f.calls_left most_calls (λ z. omega (arith, e, z)) ∙ sym (ne_eqb (suc n) 0 (λ z. omega (arith, z)))

  last_is : eqb f.calls_left 0 ≡ leb most_calls deep
  last_is = by f.calls_left known
    where
      by : (n : ℕ) → deep + n ≡ most_calls → eqb n 0 ≡ leb most_calls deep
      by zero e = sym (le-leb most_calls deep (omega (arith, e)))
      by (suc n) e = ne_eqb (suc n) 0 (λ z. omega (arith, z)) ∙ sym (lt-leb most_calls deep (omega (arith, e)))

  -- the alarm of what is asked, else the block's own
  abbrev else : Onward → ℕ
  else w = cond (eqb (alarm_by w) 0) own (alarm_by w)

  abbrev asked_first : Request → ℕ
  asked_first q =
      cond (ends_badly (eqb deep 0) q) wrong_end
      (cond (calls t q) program_missing (cond (jumps t.tape f.program.line q) block_missing (cond (deepens q && leb most_calls deep) too_deep own)))

  deep_first : (last : Bool) (p : ProgramAt) (times : ℕ) → cond last too_deep own ≡ else (cond last (Stop too_deep f.at) (Call p times))
  unfolding alarm_by
  deep_first true p times = refl
  deep_first false p times = refl

  called_first : (g : Found) (n times : ℕ) → cond (nowhere g) program_missing (cond (leb most_calls deep) too_deep own) ≡ else (called_at g n f times)
  unfolding nowhere called_at alarm_by
  called_first Nowhere n times = refl
  called_first (At p) n times = ap (λ (b : Bool). cond b too_deep own) (sym last_is) ∙ deep_first (eqb f.calls_left 0) (record { number = n; line = p }) times

  call_first : (out : Bool) (g : Found) (n times : ℕ) → cond (out || nowhere g) program_missing (cond (leb most_calls deep) too_deep own)
      ≡ else (cond out (Stop program_missing f.at) (called_at g n f times))
  unfolding alarm_by
  call_first true g n times = refl
  call_first false g n times = called_first g n times

  jump_first : (g : Found) → cond (nowhere g) block_missing own ≡ else (jumped_to g f)
  unfolding nowhere jumped_to alarm_by
  jump_first Nowhere = refl
  jump_first (At p) = refl

  return_first : (main : Bool) → cond main wrong_end own ≡ else (cond main (Stop wrong_end f.at) Return)
  unfolding alarm_by
  return_first true = refl
  return_first false = refl

  end_first : (main : Bool) → cond (not main) wrong_end own ≡ else (cond main End (Stop wrong_end f.at))
  unfolding alarm_by
  end_first true = refl
  end_first false = refl

  looked_first : (q : Request) → asked_first q ≡ else (looked_up t.tape t.settings t.first f q)
  unfolding ends_badly calls jumps deepens looked_up looked_by alarm_by
  looked_first asks.On = refl
  looked_first (asks.Call n times) = call_first (ltb n t.settings.lowest_subroutine || ltb highest_subroutine n) (find_program n (lines t.tape t.first)) n times
  looked_first (asks.Jump n) = jump_first (block_of_program n t.tape f.program.line)
  looked_first asks.Return = ap (λ (b : Bool). cond b wrong_end own) (sym main_is) ∙ return_first (eqb f.calls_left most_calls)
  looked_first asks.End = ap (λ (b : Bool). cond (not b) wrong_end own) (sym main_is) ∙ end_first (eqb f.calls_left most_calls)

  asked_first_lem : (none : Bool) (q : Request) → cond none too_many_begun (asked_first q) ≡ else (cond none (Stop too_many_begun f.at) (looked_up t.tape t.settings t.first f q))
  unfolding alarm_by
  asked_first_lem true q = refl
  asked_first_lem false q = looked_first q

pub above : Above block_order
above = refl

-- ---- the block at the frame's place
module _ (t : Task) (f : Frame) (deep : ℕ) (known : deep + f.calls_left ≡ most_calls) (r : Run) where
  abbrev here : Begun
  here = record { task = t; program = f.program.line; deep = deep; place = f.at; run = r }

  abbrev b : Block
  b = block_on t.tape f.at

  abbrev own : ℕ
  own = alarm_in t.table t.settings r.state b (t.room - r.count)

  abbrev own_first : ℕ
  own_first =
      cond (motionless here) no_motion
      (cond (rapid_missing here) not_rapid (cond (feed_bad here) bad_feed (cond (lengths_bad here) bad_lengths (cond (outside_bad here) outside_limits (cond (overfull here) no_room 0)))))

  own_first_lem : own_first ≡ own
  unfolding motionless rapid_missing feed_bad lengths_bad outside_bad overfull records_of alarm_in asks_in asked_in deed_in done_records
  own_first_lem =
      let s = sending_of t.table t.settings r.state b in
      let m = block_motion r.state.motion b in
      let d = deed_of m b s in
      let u = settled r.state b in
      let l = t.settings.limits in
      let n = length (writes u b d) in
      ap (λ (x : Bool). cond x no_motion (behind_nowhere l u.rapid_due u.f (other_count b) t.room r.count d n)) (aims m b s l)
      ∙ deed_first l u.rapid_due u.f (other_count b) t.room r.count d n (writes_length u b d)

  pub block_first : first block_order here ≡ alarm_at t f r
  unfolding first none_left end_bad call_bad jump_bad call_deep alarm_at onward_by
  block_first =
      ap (λ (x : ℕ). cond (eqb r.blocks_left 0) too_many_begun (asked_first t f deep known x (request_of b))) own_first_lem
      ∙ asked_first_lem t f deep known own (eqb r.blocks_left 0) (request_of b)

  pub block_passes : alarm_at t f r ≡ 0 → Passes here block_order
  block_passes e = passes here block_order above (block_first ∙ e)

  pub block_refused : (alarm_at t f r ≡ 0 → ⊥) → Refused here (alarm_at t f r) block_order
  block_refused some = refused here (alarm_at t f r) some block_order block_first
