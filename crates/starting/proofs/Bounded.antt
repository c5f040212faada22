-- What was read of a tape is within its bounds: an alarm's place is on the tape, and no more entries are filled than the tape has bytes and the table of places has entries.
-- Assumes nothing.
use mathlib.Core.Path.{◌≡◌, refl}
use mathlib.Core.Bool.{Bool, true, false, cond}
use mathlib.Core.List.{List, [], ◌∷◌}
use Prim.Native.Nat.{ℕ, zero, suc, ◌+◌, ◌≤◌}
use native.Mathlib.Omega.{arith}
use lib.Dec.{ltb, leb, eqb}
use lib.ListN.{length}
use borrow.Author.Tests.{leb-false, eqb-true}
use Rattle.numbers.proofs.Bounds.{cond_ind}
use Rattle.alarms.specs.Numbers as alarms
use Rattle.tape.specs.Lines.{seek_from, opens_tape, line_at, Text, text_at, lines_up, lines}
use Rattle.places.specs.Places.{line_key, block_key, entry_of, inserted}
use Rattle.places.proofs.Rows.{inserted_length}
use Rattle.block.specs.declared.Head.{Head}
use Rattle.block.specs.declared.Head.TheVariants.{Blank, ProgramLine, BlockLine, Other}
use Rattle.showing.specs.Showing.{judged}
use Rattle.reading.specs.Reading.{History, nothing_read, noted, ends_with, place_of}
use Rattle.reading.specs.Filling.{Filled, nothing_filled, filed, room_alarm, alarm_with, Readings, read_lines_with, read_with}
use Rattle.reading.specs.declared.Read.TheVariants as read
use Rattle.reading.proofs.Tabled.{none_room}
use Rattle.ahead.proofs.Places.{AllIn, lines_in}

pub record Bounded (bytes size : ℕ) (x : Readings) : Type 0 where
  pub place : place_of x.read ≤ bytes
  pub entries : length x.row ≤ bytes
  pub room : length x.row ≤ size

-- ---- a line has one entry at most, and only where the table has room for it
filed_few : (f : Filled) (head : Head) (place : ℕ) → length (filed f head place).row ≤ suc (length f.row)
unfolding filed
filed_few f (ProgramLine n) place = omega (arith, inserted_length (entry_of (line_key n) place) f.row)
filed_few f (BlockLine n) place = omega (arith, inserted_length (entry_of (block_key f.present n) place) f.row)
filed_few f Blank place = omega arith
filed_few f (Other lacks) place = omega arith

more_fits : (size e : ℕ) (row : List ℕ) (t : Bool) → leb size (length row) ≡ t → cond t alarms.places_too_short 0 ≡ 0 → length (inserted e row) ≤ size
more_fits size e row true q z = absurd (omega (arith, z))
more_fits size e row false q z = omega (arith, leb-false size (length row) q, inserted_length e row)

filed_fits : (size : ℕ) (f : Filled) (head : Head) (place : ℕ) → length f.row ≤ size → room_alarm size f.row head ≡ 0 → length (filed f head place).row ≤ size
unfolding filed room_alarm
filed_fits size f (ProgramLine n) place h e = more_fits size (entry_of (line_key n) place) f.row (leb size (length f.row)) refl e
filed_fits size f (BlockLine n) place h e = more_fits size (entry_of (block_key f.present n) place) f.row (leb size (length f.row)) refl e
filed_fits size f Blank place h e = h
filed_fits size f (Other lacks) place h e = h

lines_bounded : (points : Bool) (size first end n : ℕ) (ts : List Text) (h : History) (f : Filled) → AllIn n ts → length f.row + length ts ≤ n → length f.row ≤ size
    → Bounded n size (read_lines_with points size first end h f ts)
unfolding read_lines_with
lines_bounded points size first end n [] h f a l m = record { place = omega arith; entries = omega arith; room = m }
lines_bounded points size first end n (t ∷ ts) h f a l m =
    let j = judged t.bytes in
    let g = filed f j.head t.place in
    let k = noted h j.head in
    let alarm = alarm_with points size h f j in
    let few : length g.row ≤ suc (length f.row) = filed_few f j.head t.place in
    cond_ind (Bounded n size) (eqb alarm 0) _ (record { read = read.Alarm alarm t.place; row = f.row })
    (λ e. let fits : length g.row ≤ size = filed_fits size f j.head t.place m (none_room points size h f j (eqb-true alarm 0 e)) in
    cond_ind (Bounded n size) (ends_with j.head j.ends) (record { read = read.Whole first t.after; row = g.row }) (read_lines_with points size first end k g ts)
    (λ _. record { place = omega arith; entries = omega (arith, few, l); room = fits })
    (lines_bounded points size first end n ts k g a.1 (omega (arith, few, l)) fits))
    (record { place = omega (arith, a.0); entries = omega (arith, l); room = m })

-- ---- no tape has more lines than bytes
lines_few : (k : ℕ) (s : List ℕ) (p : ℕ) → length (lines_up k s p) ≤ k
unfolding lines_up
lines_few zero s p = omega arith
lines_few (suc k) s p =
    cond_ind (λ (ts : List Text). length ts ≤ suc k) (ltb p (length s)) (text_at s p ∷ lines_up k s (line_at s p).after) []
    (λ _. omega (arith, lines_few k s (line_at s p).after)) (omega arith)

-- THE LAW
pub read_bounded : (points : Bool) (size : ℕ) (tape : List ℕ) → Bounded (length tape) size (read_with points size tape)
unfolding read_with lines
read_bounded points size tape =
    let first = seek_from opens_tape tape 0 in
    cond_ind (Bounded (length tape) size) (ltb first (length tape)) _ (record { read = read.Alarm alarms.no_program 0; row = [] })
    (λ _. lines_bounded points size first (length tape) (length tape) (lines tape first) nothing_read nothing_filled (lines_in tape first) (omega (arith, lines_few (length tape) tape first)) (omega arith))
    (record { place = omega arith; entries = omega arith; room = omega arith })
