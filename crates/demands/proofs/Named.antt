-- Every alarm is one of those that are given.
-- Assumes nothing.
use mathlib.Core.Path.{◌≡◌, refl, sym, ap, ◌∙◌}
use mathlib.Core.Bool.{Bool, true, false, cond, ◌&&◌, ◌||◌}
use mathlib.Core.List.{List, ◌∷◌}
use Prim.Native.Nat.{ℕ, ◌-◌}
use lib.Dec.{leb, ltb, eqb}
use lib.IntN.{ℤ}
use lib.ListN.{length}
use borrow.Author.Tests.{ne_eqb}
use Rattle.alarms.specs.Numbers.{bad_line_start, line_too_long, bad_byte_or_number, word_rules, no_motion, not_rapid, bad_feed, outside_limits, bad_lengths, no_room, missing_point, places_too_short}
use Rattle.alarms.specs.Given.{given, IsAlarm}
use Rattle.whole.specs.Among.{among}
use Rattle.settings.specs.Wrong.{highest_program}
use Rattle.block.specs.Words.{longest_line, line_of}
use Rattle.showing.specs.Showing.{broken_by, lacks_by, refused_line, judged_by, judged}
use Rattle.showing.specs.declared.Judged.{Judged}
use Rattle.block.specs.declared.Block.{Block}
use Rattle.block.specs.declared.Head.{Head}
use Rattle.block.specs.declared.Head.TheVariants.{Blank, ProgramLine, BlockLine, Other}
use Rattle.reading.specs.Reading.{History, head_alarm, line_alarm}
use Rattle.reading.specs.Filling.{Filled, room_alarm, alarm_with}
use Rattle.state.specs.declared.State.{State}
use Rattle.asking.specs.Judge.{feed_wrong, room_wrong, alarm_of}
use Rattle.asking.specs.declared.Asked.{Asked}
use Rattle.asking.specs.declared.Asks.{Asks}
use Rattle.interpreter.specs.of_verdicts.Verdicts.{asks_in, asked_in, alarm_in}
use Rattle.settings.specs.declared.Settings.{Settings}
use Rattle.interpreter.specs.of_taking.Steps.{Task, block_on, onward_of, alarm_by, alarm_at}
use Rattle.ahead.specs.declared.Frame.{Frame}
use Rattle.ahead.specs.declared.Onward.{Onward}
use Rattle.ahead.specs.declared.Onward.TheVariants.{On, Call, Jump, Return, End, Stop}
use Rattle.interpreter.specs.of_taking.declared.Run.{Run}
use Rattle.ahead.proofs.Places.{OnwardOn}
use Rattle.interpreter.proofs.of_taking.Stepping.{onward_on}

-- 0, or an alarm that is given where points are asked for or not
abbrev pub NoneOrGiven : Bool → ℕ → Type 0
NoneOrGiven points n = among n (0 ∷ given points) ≡ true

pub given_above : (points : Bool) (n : ℕ) → NoneOrGiven points n → (n ≡ 0 → ⊥) → IsAlarm points n
given_above points n h e = ap (λ (t : Bool). t || among n (given points)) (sym (ne_eqb n 0 e)) ∙ h

-- one of two
either : (points c : Bool) (m n : ℕ) → NoneOrGiven points m → NoneOrGiven points n → NoneOrGiven points (cond c m n)
either points true m n h k = h
either points false m n h k = k

-- ---- of a line
judged_by_lem : (points c : Bool) (x y : Judged) → NoneOrGiven points x.alarm → NoneOrGiven points y.alarm → NoneOrGiven points (cond c x y).alarm
judged_by_lem points true x y h k = h
judged_by_lem points false x y h k = k

judged_named : (points : Bool) (s : List ℕ) → NoneOrGiven points (judged s).alarm
unfolding judged
judged_named points s =
    let r = line_of s in
    let well : Judged = record { alarm = 0; head = r.head; pointless = lacks_by r.head r.block.pointless; broken = broken_by r.head r.block; ends = r.block.ends } in
    judged_by_lem points (ltb longest_line (length s)) (refused_line line_too_long) (judged_by r) refl (judged_by_lem points r.faulty (refused_line bad_byte_or_number) well refl refl)

head_named : (points : Bool) (h : History) (k : Head) (broken : Bool) → NoneOrGiven points (head_alarm h k broken)
unfolding head_alarm
head_named points h Blank broken = refl
head_named points h (Other lacks) broken = refl
head_named points h (ProgramLine n) broken = either points (ltb highest_program n || among n h.programs) bad_line_start (cond broken word_rules 0) refl (either points broken word_rules 0 refl refl)
head_named points h (BlockLine n) broken = either points (among n h.blocks) bad_line_start (cond broken word_rules 0) refl (either points broken word_rules 0 refl refl)

-- 21 is given where points are asked for
point_named : (points pointless : Bool) (n : ℕ) → NoneOrGiven points n → NoneOrGiven points (cond (points && pointless) missing_point n)
point_named true true n h = refl
point_named true false n h = h
point_named false pointless n h = h

own_line_named : (points : Bool) (h : History) (s : List ℕ) → NoneOrGiven points (line_alarm points h (judged s))
unfolding line_alarm
own_line_named points h s =
    let j = judged s in
    let head = head_alarm h j.head j.broken in
    either points (eqb j.alarm 0) (cond (points && j.pointless) missing_point head) j.alarm (point_named points j.pointless head (head_named points h j.head j.broken)) (judged_named points s)

room_named : (points : Bool) (size : ℕ) (row : List ℕ) (k : Head) → NoneOrGiven points (room_alarm size row k)
unfolding room_alarm
room_named points size row (ProgramLine n) = either points (leb size (length row)) places_too_short 0 refl refl
room_named points size row (BlockLine n) = either points (leb size (length row)) places_too_short 0 refl refl
room_named points size row Blank = refl
room_named points size row (Other lacks) = refl

pub line_named : (points : Bool) (size : ℕ) (h : History) (f : Filled) (s : List ℕ) → NoneOrGiven points (alarm_with points size h f (judged s))
unfolding alarm_with
line_named points size h f s =
    let j = judged s in
    either points (eqb (line_alarm points h j) 0) (room_alarm size f.row j.head) (line_alarm points h j) (room_named points size f.row j.head) (own_line_named points h s)

-- ---- of a block: whatever the settings are
deed_named : (q : Asks) (a : Asked) → NoneOrGiven false (alarm_of q a)
unfolding alarm_of
deed_named q a =
    let room = cond (room_wrong q.count a) no_room 0 in
    let ends = cond q.outside outside_limits room in
    let lengths = cond q.wrong bad_lengths ends in
    let feed = cond (feed_wrong q.least a.f) bad_feed lengths in
    let late = a.rapid_due && q.waits in
    either false q.nowhere no_motion (cond late not_rapid feed) refl
    (either false late not_rapid feed refl
    (either false (feed_wrong q.least a.f) bad_feed lengths refl
    (either false q.wrong bad_lengths ends refl
    (either false q.outside outside_limits room refl (either false (room_wrong q.count a) no_room 0 refl refl)))))

own_named : (table : List ℤ) (set : Settings) (s : State) (b : Block) (left : ℕ) → NoneOrGiven false (alarm_in table set s b left)
unfolding alarm_in
own_named table set s b left = deed_named (asks_in table set s b) (asked_in s b left)

or_given : (a b : Bool) → b ≡ true → (a || b) ≡ true
or_given true b h = refl
or_given false b h = h

asked_named : (n : ℕ) (w : Onward) → OnwardOn n w → NoneOrGiven false (alarm_by w)
unfolding alarm_by
asked_named n On h = refl
asked_named n (Call p times) h = refl
asked_named n (Jump p) h = refl
asked_named n Return h = refl
asked_named n End h = refl
asked_named n (Stop alarm place) h = or_given (eqb alarm 0) (among alarm (given false)) h

pub block_named : (t : Task) (f : Frame) (r : Run) → NoneOrGiven false (alarm_at t f r)
unfolding alarm_at
block_named t f r =
    let b = block_on t.tape f.at in
    let asked = alarm_by (onward_of t f r) in
    let own = alarm_in t.table t.settings r.state b (t.room - r.count) in
    either false (eqb asked 0) own asked (own_named t.table t.settings r.state b (t.room - r.count))
    (asked_named (length t.tape) (onward_of t f r) (onward_on t.tape t.settings t.first f r.blocks_left b))
