-- A reading on its way along the lines: what the table of places holds, and that reading on from here gives what reading from the first line gives.
-- Assumes nothing.
use mathlib.Core.Path.{◌≡◌, refl, sym, ap, ◌∙◌, subst}
use mathlib.Core.Bool.{Bool, true, false, cond, ◌&&◌}
use mathlib.Core.List.{List, ◌++◌}
use Prim.Native.Nat.{ℕ, suc, ◌+◌, ◌-◌, ◌≤◌, ◌<◌}
use native.Mathlib.Omega.{arith}
use native.Mathlib.Numerals.{add-one}
use lib.Dec.{eqb}
use lib.ListN.{length, take, drop, length-append, length-drop}
use lib.Seq.{take_at, drop-append-add, drop-drop}
use borrow.Author.Tests.{eq-eqb, ne_eqb, lt-ltb, le-ltb, le-leb, lt-leb}
use Rattle.alarms.specs.Numbers.{bad_line_start, word_rules, missing_point, places_too_short}
use Rattle.settings.specs.Wrong.{highest_program}
use Rattle.places.specs.Places.{sixteen_bits, line_key, block_key, entry_of, Row, inserted, is_held, highest_slot}
use Rattle.places.specs.Lines.{no_program}
use Rattle.places.proofs.Rows.{inserted_length, same_size}
use Rattle.whole.specs.Among.{among}
use Rattle.tape.specs.Lines.{line_at, lines}
use Rattle.tape.specs.declared.line.Line.{Line}
use Rattle.tape.proofs.Lining.{lines_more, lines_end}
use Rattle.showing.specs.Showing.{judged}
use Rattle.showing.specs.declared.Judged.{Judged}
use Rattle.block.specs.declared.Head.{Head}
use Rattle.block.specs.declared.Head.TheVariants.{Blank, ProgramLine, BlockLine, Other}
use Rattle.reading.specs.declared.Read.{Read}
use Rattle.reading.specs.declared.Read.TheVariants.{Whole, Alarm}
use Rattle.reading.specs.Reading.{History, nothing_read, head_alarm, line_alarm, noted, ends_with}
use Rattle.reading.specs.Filling.{Filled, nothing_filled, filed, room_alarm, alarm_with, Readings, told, read_lines_with, places_behind}
use Rattle.reading.proofs.Noting.{Sound, sound_start, sound_program, sound_block}

-- what reading the lines of a tape from `first` on gives
abbrev pub whole : Bool → List ℕ → ℕ → ℕ → Readings
whole points tape first size = read_lines_with points size first (length tape) nothing_read nothing_filled (lines tape first)

-- `places₀` is the table as it came
pub record Going (points : Bool) (tape : List ℕ) (first : ℕ) (places₀ places : List ℕ) (present count p : ℕ) : Type 0 where
  pub history : History
  pub filled : Filled
  pub same : whole points tape first (length places₀) ≡ read_lines_with points (length places₀) first (length tape) history filled (lines tape p)
  pub here : p ≤ length tape
  pub sound : Sound history filled
  pub held : places ≡ places_behind filled.row places₀
  pub counted : count ≡ length filled.row
  pub room : count ≤ length places₀
  pub is_present : present ≡ filled.present
  pub low : present ≤ no_program
  -- each entry is that of a line before
  pub few : count ≤ p

-- ---- the beginning
pub starts : (points : Bool) (tape : List ℕ) (first : ℕ) (places : List ℕ) → first ≤ length tape → Going points tape first places places no_program 0 first
starts points tape first places h = record {
  history = nothing_read;
  filled = nothing_filled;
  same = refl;
  here = h;
  sound = sound_start;
  held = refl;
  counted = refl;
  room = omega arith;
  is_present = refl;
  low = omega arith;
  few = omega arith;
}

module _ {points : Bool} {tape : List ℕ} {first : ℕ} {places₀ places : List ℕ} {present count p : ℕ} (g : Going points tape first places₀ places present count p) where
  abbrev size : ℕ
  size = length places₀

  abbrev row : List ℕ
  row = g.filled.row

  -- ---- the table
  pub row_is : take count places ≡ row
  row_is = ap (take count) g.held ∙ take_at row (drop (length row) places₀) count (sym g.counted)

  pub row_ascends : Row (take count places)
  row_ascends = subst Row (sym row_is) g.sound.ascends

  pub size_is : length places ≡ length places₀
  size_is = ap length g.held ∙ omega (arith, length-append row (drop (length row) places₀), length-drop (length row) places₀, g.counted, g.room)

  pub count_in_lem : count ≤ length places
  count_in_lem = omega (arith, g.room, size_is)

  -- an answer with the table as it is
  pub answered : (r : Read) → whole points tape first size ≡ record { read = r; row = row }
      → (record { read = r; count = count } ≡ told (whole points tape first size)) × (places ≡ places_behind (whole points tape first size).row places₀)
  answered r e = (
    (λ i. record { read = r; count = g.counted i }) ∙ ap told (sym e),
    g.held ∙ ap (λ (z : Readings). places_behind z.row places₀) (sym e),
  )

  -- ---- the end of the tape
  pub at_end : length tape ≤ p → whole points tape first size ≡ record { read = Whole first (length tape); row = row }
  unfolding read_lines_with
  at_end h = g.same ∙ ap (read_lines_with points size first (length tape) g.history g.filled) (lines_end tape p h)

  -- ---- one line, whose judgement is j
  module _ (inside : p < length tape) (line : Line) (is_line : line ≡ line_at tape p) (j : Judged) (is_judged : j ≡ judged (take (line.stop - p) (drop p tape))) where
    -- what the line gives, with what is left to read behind it
    by : Line → Judged → Readings
    by l k =
        let a = alarm_with points size g.history g.filled k in
        let f = filed g.filled k.head p in
        cond (eqb a 0)
        (cond (ends_with k.head k.ends) (record { read = Whole first l.after; row = f.row }) (read_lines_with points size first (length tape) (noted g.history k.head) f (lines tape l.after)))
        (record { read = Alarm a p; row = row })

    opened : whole points tape first size ≡ by line j
    unfolding read_lines_with by
    opened =
        g.same ∙ ap (read_lines_with points size first (length tape) g.history g.filled) (lines_more tape p inside)
        ∙ ap (λ (l : Line). by l (judged (take (l.stop - p) (drop p tape)))) (sym is_line) ∙ ap (by line) (sym is_judged)

    -- an alarm of the line
    with_alarm : (n : ℕ) → alarm_with points size g.history g.filled j ≡ n → (n ≡ 0 → ⊥) → whole points tape first size ≡ record { read = Alarm n p; row = row }
    unfolding by
    with_alarm n e some = opened ∙ rw (e, ne_eqb n 0 some)

    -- one that has nothing to do with the table
    own_alarm : (n : ℕ) → line_alarm points g.history j ≡ n → (n ≡ 0 → ⊥) → alarm_with points size g.history g.filled j ≡ n
    unfolding alarm_with
    own_alarm n e some = rw (e, ne_eqb n 0 some)

    -- alarm 7 or 5
    is_itself : (j.alarm ≡ 0 → ⊥) → line_alarm points g.history j ≡ j.alarm
    unfolding line_alarm
    is_itself n = rw (ne_eqb j.alarm 0 n)

    pub refused_itself : (j.alarm ≡ 0 → ⊥) → whole points tape first size ≡ record { read = Alarm j.alarm p; row = row }
    refused_itself n = with_alarm j.alarm (own_alarm j.alarm (is_itself n) n) n

    -- alarm 21
    is_pointless : j.alarm ≡ 0 → (points && j.pointless) ≡ true → line_alarm points g.history j ≡ missing_point
    unfolding line_alarm
    is_pointless good e = rw (eq-eqb j.alarm 0 good, e)

    pub refused_pointless : j.alarm ≡ 0 → (points && j.pointless) ≡ true → whole points tape first size ≡ record { read = Alarm missing_point p; row = row }
    refused_pointless good e = let some : missing_point ≡ 0 → ⊥ = λ z. omega (arith, z) in with_alarm missing_point (own_alarm missing_point (is_pointless good e) some) some

    -- alarm 6, 9 or 22, and none
    module _ (good : j.alarm ≡ 0) (pointed : (points && j.pointless) ≡ false) (head : Head) (is_head : j.head ≡ head) where
      line_alarm_lem : line_alarm points g.history j ≡ head_alarm g.history head j.broken
      unfolding line_alarm
      line_alarm_lem = rw (eq-eqb j.alarm 0 good, pointed) (ap (λ (x : Head). head_alarm g.history x j.broken) is_head)

      pub refused : (n : ℕ) → head_alarm g.history head j.broken ≡ suc n → whole points tape first size ≡ record { read = Alarm (suc n) p; row = row }
      refused n e = let some : suc n ≡ 0 → ⊥ = λ z. omega (arith, z) in with_alarm (suc n) (own_alarm (suc n) (line_alarm_lem ∙ e) some) some

      by_room : head_alarm g.history head j.broken ≡ 0 → alarm_with points size g.history g.filled j ≡ room_alarm size row head
      unfolding alarm_with
      by_room e = rw (line_alarm_lem ∙ e) (ap (room_alarm size row) is_head)

      pub refused_room : head_alarm g.history head j.broken ≡ 0 → room_alarm size row head ≡ places_too_short
          → whole points tape first size ≡ record { read = Alarm places_too_short p; row = row }
      refused_room e f = with_alarm places_too_short (by_room e ∙ f) (λ z. omega (arith, z))

      module _ (well : head_alarm g.history head j.broken ≡ 0) (fits : room_alarm size row head ≡ 0) where
        pub ended : ends_with head j.ends ≡ true → whole points tape first size ≡ record { read = Whole first line.after; row = (filed g.filled head p).row }
        unfolding by
        ended f = opened ∙ rw (by_room well ∙ fits, is_head, f)

        pub onward : ends_with head j.ends ≡ false
            → whole points tape first size ≡ read_lines_with points size first (length tape) (noted g.history head) (filed g.filled head p) (lines tape line.after)
        unfolding by
        onward f = opened ∙ rw (by_room well ∙ fits, is_head, f)

  -- ---- what the table shows of a head
  module _ (n : ℕ) (broken : Bool) where
    pub program_above : highest_program < n → head_alarm g.history (ProgramLine n) broken ≡ bad_line_start
    unfolding head_alarm
    program_above h = rw (lt-ltb highest_program n h)

    module _ (h : n ≤ highest_program) (key : ℕ) (is_key : key ≡ line_key n) (t : Bool) (held : t ≡ is_held key (take count places)) where
      pub program_flag : among n g.history.programs ≡ t
      program_flag = sym (g.sound.flags n) ∙ ap (λ (r : List ℕ). is_held (line_key n) r) (sym row_is) ∙ ap (λ (k : ℕ). is_held k (take count places)) (sym is_key) ∙ sym held

      pub program_repeated : t ≡ true → head_alarm g.history (ProgramLine n) broken ≡ bad_line_start
      unfolding head_alarm
      program_repeated e = rw (le-ltb highest_program n h, program_flag ∙ e)

      pub program_new : t ≡ false → head_alarm g.history (ProgramLine n) broken ≡ cond broken word_rules 0
      unfolding head_alarm
      program_new e = rw (le-ltb highest_program n h, program_flag ∙ e)

    module _ (h : n < highest_slot) (key : ℕ) (is_key : key ≡ block_key present n) (t : Bool) (held : t ≡ is_held key (take count places)) where
      pub block_mark : among n g.history.blocks ≡ t
      block_mark =
          sym (g.sound.marks n h) ∙ ap (λ (r : List ℕ). is_held (block_key g.filled.present n) r) (sym row_is)
          ∙ ap (λ (k : ℕ). is_held (block_key k n) (take count places)) (sym g.is_present) ∙ ap (λ (k : ℕ). is_held k (take count places)) (sym is_key) ∙ sym held

      pub block_repeated : t ≡ true → head_alarm g.history (BlockLine n) broken ≡ bad_line_start
      unfolding head_alarm
      block_repeated e = rw (block_mark ∙ e)

      pub block_new : t ≡ false → head_alarm g.history (BlockLine n) broken ≡ cond broken word_rules 0
      unfolding head_alarm
      block_new e = rw (block_mark ∙ e)

  -- ---- and of its room
  module _ (n : ℕ) where
    pub program_none : length places ≤ count → room_alarm size row (ProgramLine n) ≡ places_too_short
    unfolding room_alarm
    program_none l = rw (le-leb size (length row) (omega (arith, l, g.counted, size_is)))

    pub program_room : count < length places → room_alarm size row (ProgramLine n) ≡ 0
    unfolding room_alarm
    program_room l = rw (lt-leb size (length row) (omega (arith, l, g.counted, size_is)))

    pub block_none : length places ≤ count → room_alarm size row (BlockLine n) ≡ places_too_short
    unfolding room_alarm
    block_none l = rw (le-leb size (length row) (omega (arith, l, g.counted, size_is)))

    pub block_room : count < length places → room_alarm size row (BlockLine n) ≡ 0
    unfolding room_alarm
    block_room l = rw (lt-leb size (length row) (omega (arith, l, g.counted, size_is)))

  -- ---- the table with one entry more
  module _ (x : List ℕ) (e : ℕ) (l : count < length places) (is : x ≡ inserted e (take count places) ++ drop (count + 1) places) where
    behind : drop (count + 1) places ≡ drop (suc (length row)) places₀
    behind =
        ap (λ (t : List ℕ). drop (count + 1) t) g.held ∙ ap (λ (n : ℕ). drop (n + 1) (places_behind row places₀)) g.counted
        ∙ drop-append-add row (drop (length row) places₀) 1 ∙ drop-drop 1 (length row) places₀ ∙ rw (add-one (length row))

    pub held_more : x ≡ places_behind (inserted e row) places₀
    held_more = is ∙ rw (inserted_length e row, row_is, behind)

    pub counted_more : count + 1 ≡ length (inserted e row)
    counted_more = omega (arith, inserted_length e row, g.counted)

    pub size_more : length x ≡ length places₀
    size_more = same_size places x count e l is ∙ size_is

    pub room_more : count + 1 ≤ length places₀
    room_more = omega (arith, l, size_is)

  -- ---- the rest is read from `after` on
  module _ (after : ℕ) (further : p < after) (within : after ≤ length tape) where
    pub past_blank : whole points tape first size ≡ read_lines_with points size first (length tape) (noted g.history Blank) (filed g.filled Blank p) (lines tape after)
        → Going points tape first places₀ places present count after
    unfolding noted filed
    past_blank e = record {
      history = g.history;
      filled = g.filled;
      same = e;
      here = within;
      sound = g.sound;
      held = g.held;
      counted = g.counted;
      room = g.room;
      is_present = g.is_present;
      low = g.low;
      few = omega (arith, g.few, further);
    }

    module _ (inside : p < sixteen_bits) (n : ℕ) (x : List ℕ) (e : ℕ) (l : count < length places) (is : x ≡ inserted e (take count places) ++ drop (count + 1) places) where
      pub past_program : n < no_program → among n g.history.programs ≡ false → e ≡ entry_of (line_key n) p
          → whole points tape first size ≡ read_lines_with points size first (length tape) (noted g.history (ProgramLine n)) (filed g.filled (ProgramLine n) p) (lines tape after)
          → Going points tape first places₀ x n (count + 1) after
      unfolding noted filed
      past_program small fresh is_e q = record {
        history = noted g.history (ProgramLine n);
        filled = filed g.filled (ProgramLine n) p;
        same = q;
        here = within;
        sound = sound_program g.sound n p inside small fresh;
        held = held_more x e l is ∙ ap (λ (k : ℕ). places_behind (inserted k row) places₀) is_e;
        counted = counted_more x e l is ∙ ap (λ (k : ℕ). length (inserted k row)) is_e;
        room = room_more x e l is;
        is_present = refl;
        low = omega arith;
        few = omega (arith, g.few, further);
      }

      module _ (is_e : e ≡ entry_of (block_key present n) p) where
        own_entry : e ≡ entry_of (block_key g.filled.present n) p
        own_entry = is_e ∙ ap (λ (k : ℕ). entry_of (block_key k n) p) g.is_present

        pub past_block : n < highest_slot → among n g.history.blocks ≡ false
            → whole points tape first size ≡ read_lines_with points size first (length tape) (noted g.history (BlockLine n)) (filed g.filled (BlockLine n) p) (lines tape after)
            → Going points tape first places₀ x present (count + 1) after
        unfolding noted filed
        past_block small fresh q = record {
          history = noted g.history (BlockLine n);
          filled = filed g.filled (BlockLine n) p;
          same = q;
          here = within;
          sound = sound_block g.sound n p inside small fresh;
          held = held_more x e l is ∙ ap (λ (k : ℕ). places_behind (inserted k row) places₀) own_entry;
          counted = counted_more x e l is ∙ ap (λ (k : ℕ). length (inserted k row)) own_entry;
          room = room_more x e l is;
          is_present = g.is_present;
          low = g.low;
          few = omega (arith, g.few, further);
        }

        -- reading ends with the block
        pub last_block : whole points tape first size ≡ record { read = Whole first after; row = (filed g.filled (BlockLine n) p).row }
            → (record { read = Whole first after; count = count + 1 } ≡ told (whole points tape first size)) × (x ≡ places_behind (whole points tape first size).row places₀)
        unfolding filed
        last_block q = (
          (λ i. record { read = Whole first after; count = (counted_more x e l is ∙ ap (λ (k : ℕ). length (inserted k row)) own_entry) i }) ∙ ap told (sym q),
          held_more x e l is ∙ ap (λ (k : ℕ). places_behind (inserted k row) places₀) own_entry ∙ ap (λ (z : Readings). places_behind z.row places₀) (sym q),
        )

-- ---- heads that the table says nothing of
pub blank_none : (h : History) (broken : Bool) → head_alarm h Blank broken ≡ 0
unfolding head_alarm
blank_none h broken = refl

pub blank_room : (size : ℕ) (row : List ℕ) → room_alarm size row Blank ≡ 0
unfolding room_alarm
blank_room size row = refl

pub other_start : (h : History) (lacks broken : Bool) → head_alarm h (Other lacks) broken ≡ bad_line_start
unfolding head_alarm
other_start h lacks broken = refl

pub blank_on : (ends : Bool) → ends_with Blank ends ≡ false
unfolding ends_with
blank_on ends = refl

pub program_on : (n : ℕ) (ends : Bool) → ends_with (ProgramLine n) ends ≡ false
unfolding ends_with
program_on n ends = refl

pub block_ends : (n : ℕ) (ends : Bool) → ends_with (BlockLine n) ends ≡ ends
unfolding ends_with
block_ends n ends = refl
