-- Whatever the length of the table of places: what comes of reading is what comes of it in the first layout, or it is 22.
-- Assumes nothing.
use mathlib.Core.Path.{◌≡◌, refl, sym, subst}
use mathlib.Core.Bool.{Bool, true, false, cond}
use mathlib.Core.List.{List, [], ◌∷◌}
use Prim.Native.Nat.{ℕ}
use lib.Dec.{leb, ltb, eqb}
use lib.ListN.{length}
use borrow.Author.Tests.{eqb-true, eqb-false, ne_eqb}
use Rattle.alarms.specs.Numbers.{places_too_short}
use Rattle.alarms.specs.Numbers as alarms
use Rattle.tape.specs.Lines.{seek_from, opens_tape, Text, lines}
use Rattle.showing.specs.Showing.{judged}
use Rattle.block.specs.declared.Head.{Head}
use Rattle.block.specs.declared.Head.TheVariants.{Blank, ProgramLine, BlockLine, Other}
use Rattle.reading.specs.declared.Read.{Read}
use Rattle.reading.specs.declared.Read.TheVariants.{Alarm}
use Rattle.reading.specs.Reading.{History, nothing_read, line_alarm, noted, ends_with, after_line, read_lines, read_of}
use Rattle.reading.specs.Filling.{Filled, nothing_filled, filed, room_alarm, alarm_with, Readings, after_line_with, read_lines_with, read_with}

pub data Stays (plain : Read) : Read → Type 0 where
  same : Stays plain plain
  short : {place : ℕ} → Stays plain (Alarm places_too_short place)

-- 22 is given or not
either_room : (P : ℕ → Type 0) (size : ℕ) (row : List ℕ) (k : Head) → P 0 → P places_too_short → P (room_alarm size row k)
unfolding room_alarm
either_room P size row Blank a b = a
either_room P size row (Other lacks) a b = a
either_room P size row (ProgramLine n) a b = by (leb size (length row))
  where
    by : (t : Bool) → P (cond t places_too_short 0)
    by true = b
    by false = a
either_room P size row (BlockLine n) a b = by (leb size (length row))
  where
    by : (t : Bool) → P (cond t places_too_short 0)
    by true = b
    by false = a

-- one line, where the lines behind it stay
module _ (first : ℕ) (t : Text) (ends : Bool) (before with : List ℕ) (rest : Readings) (plain : Read) (rests : Stays plain rest.read) (own : ℕ) where
  abbrev Out : ℕ → Type 0
  Out a = Stays (after_line first own ends t plain) (after_line_with first a ends t before with rest).read

  passes : own ≡ 0 → Out 0
  passes e = subst (λ (n : ℕ). Stays (after_line first n ends t plain) (after_line_with first 0 ends t before with rest).read) (sym e) (by ends)
    where
      by : (v : Bool) → Stays (after_line first 0 v t plain) (after_line_with first 0 v t before with rest).read
      by true = same
      by false = rests

  full : Out places_too_short
  full = short

  refused : (own ≡ 0 → ⊥) → Out own
  refused some = rw (ne_eqb own 0 some) same

  line_stays : (size : ℕ) (row : List ℕ) (k : Head) → Out (cond (eqb own 0) (room_alarm size row k) own)
  line_stays size row k = by (eqb own 0) refl
    where
      by : (free : Bool) → eqb own 0 ≡ free → Out (cond free (room_alarm size row k) own)
      by true e = either_room Out size row k (passes (eqb-true own 0 e)) full
      by false e = refused (eqb-false own 0 e)

lines_stay : (points : Bool) (size first end : ℕ) (h : History) (f : Filled) (ts : List Text) → Stays (read_lines points first end h ts) (read_lines_with points size first end h f ts).read
unfolding read_lines read_lines_with alarm_with
lines_stay points size first end h f [] = same
lines_stay points size first end h f (t ∷ ts) =
    let j = judged t.bytes in
    let g = filed f j.head t.place in
    line_stays first t (ends_with j.head j.ends) f.row g.row (read_lines_with points size first end (noted h j.head) g ts) (read_lines points first end (noted h j.head) ts)
    (lines_stay points size first end (noted h j.head) g ts) (line_alarm points h j) size f.row j.head

-- THE LAW, of reading
pub stays : (points : Bool) (size : ℕ) (tape : List ℕ) → Stays (read_of points tape) (read_with points size tape).read
unfolding read_of read_with
stays points size tape = by (ltb (seek_from opens_tape tape 0) (length tape))
  where
    by : (t : Bool)
        → Stays (cond t (read_lines points (seek_from opens_tape tape 0) (length tape) nothing_read (lines tape (seek_from opens_tape tape 0))) (Alarm alarms.no_program 0))
        (cond {A = Readings} t (read_lines_with points size (seek_from opens_tape tape 0) (length tape) nothing_read nothing_filled (lines tape (seek_from opens_tape tape 0))) (record { read = Alarm alarms.no_program 0; row = [] })).read
    by true = lines_stay points size (seek_from opens_tape tape 0) (length tape) nothing_read nothing_filled (lines tape (seek_from opens_tape tape 0))
    by false = same
