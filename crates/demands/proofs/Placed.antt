-- After any answer the table of places holds the lines read and accepted, in their order, and its other entries are as they came.
-- Assumes nothing.
use mathlib.Core.Path.{◌≡◌, refl, sym, ap, ◌∙◌, subst}
use mathlib.Core.Bool.{Bool, true, false, cond, ◌||◌}
use mathlib.Core.List.{List, [], ◌∷◌, ◌++◌}
use Prim.Native.Nat.{ℕ, ◌+◌, ◌≤◌}
use native.Mathlib.Omega.{arith}
use lib.Dec.{leb, ltb, eqb}
use lib.IntN.{ℤ}
use lib.ListN.{length, drop}
use borrow.Author.Tests.{ltb-false, leb-false, eqb-true}
use Rattle.whole.specs.Among.{among}
use Rattle.moves.specs.Form.{header_size}
use Rattle.places.specs.Places.{line_key, block_key, entry_of, key_in, Row, inserted}
use Rattle.places.specs.Lines.{no_program, row_after, tabled}
use Rattle.places.proofs.Rows.{inserted_length}
use Rattle.places.proofs.Walks.{table_row}
use Rattle.tape.specs.Lines.{seek_from, opens_tape, Text, lines}
use Rattle.block.specs.Words.{head_of}
use Rattle.block.specs.declared.Head.{Head}
use Rattle.block.specs.declared.Head.TheVariants.{Blank, ProgramLine, BlockLine, Other}
use Rattle.showing.specs.Showing.{judged}
use Rattle.showing.specs.declared.Judged.{Judged}
use Rattle.finding.proofs.Walking.{kind_of, lines_of}
use Rattle.reading.specs.Reading.{History, nothing_read, noted, ends_with}
use Rattle.reading.specs.Filling.{Filled, nothing_filled, filed, room_alarm, alarm_with, Readings, read_lines_with, read_with, accepted_of}
use Rattle.reading.specs.declared.Read.TheVariants as read
use Rattle.reading.proofs.Tabled.{none_room, row_accepted, all_accepted}
use Rattle.alarms.specs.Numbers as alarms
use Rattle.settings.specs.Wrong.{settings_wrong}
use Rattle.settings.specs.declared.Settings.{Settings}
use Rattle.interpreter.specs.Answers.{longest_tape, row_of, places_of}
use Rattle.interpreter.proofs.Staying.{all_stay, stays_unless}
use Rattle.demands.specs.Placed.{accepted_in, entries_by, entries_of, ListsStay}
use Rattle.demands.specs.Demands.{TableAfter}

-- ---- the entries of a row with one entry more
swap : (a b c : Bool) → (a || (b || c)) ≡ (b || (a || c))
swap true true c = refl
swap true false c = refl
swap false b c = refl

members : (e x : ℕ) (row : List ℕ) → among e (inserted x row) ≡ (eqb e x || among e row)
unfolding inserted
members e x [] = refl
members e x (y ∷ ys) = go (ltb (key_in y) (key_in x)) (members e x ys)
  where
    go : (t : Bool) → among e (inserted x ys) ≡ (eqb e x || among e ys) → among e (cond t (y ∷ inserted x ys) (x ∷ (y ∷ ys))) ≡ (eqb e x || (eqb e y || among e ys))
    go true h = ap (λ (t : Bool). eqb e y || t) h ∙ swap (eqb e y) (eqb e x) (among e ys)
    go false h = refl

-- ---- the table of some lines
or_none : (a : Bool) → a ≡ (a || false)
or_none true = refl
or_none false = refl

moved : (a b c : Bool) → ((a || b) || c) ≡ (b || (a || c))
moved true true c = refl
moved true false c = refl
moved false b c = refl

tabled_members : (e p : ℕ) (row : List ℕ) (ts : List Text) → among e (tabled p row (lines_of ts)) ≡ (among e row || among e (entries_of p ts))
unfolding tabled row_after entries_of
tabled_members e p row [] = or_none (among e row)
tabled_members e p row (t ∷ ts) = by (head_of t.bytes) (λ q r. tabled_members e q r ts)
  where
    with : (x q : ℕ) → among e (tabled q (inserted x row) (lines_of ts)) ≡ (among e (inserted x row) || among e (entries_of q ts))
        → among e (tabled q (inserted x row) (lines_of ts)) ≡ (among e row || (eqb e x || among e (entries_of q ts)))
    with x q h = h ∙ ap (λ (b : Bool). b || among e (entries_of q ts)) (members e x row) ∙ moved (eqb e x) (among e row) (among e (entries_of q ts))

    by : (head : Head) → ((q : ℕ) (r : List ℕ) → among e (tabled q r (lines_of ts)) ≡ (among e r || among e (entries_of q ts)))
        → among e (tabled p row (record { kind = kind_of head; place = t.place } ∷ lines_of ts)) ≡ (among e row || among e (entries_by p head t.place (λ q. entries_of q ts)))
    by (ProgramLine n) rest = with (entry_of (line_key n) t.place) n (rest n _)
    by (BlockLine n) rest = with (entry_of (block_key p n) t.place) p (rest p _)
    by Blank rest = rest p row
    by (Other lacks) rest = rest p row

tabled_length : (p : ℕ) (row : List ℕ) (ts : List Text) → length (tabled p row (lines_of ts)) ≡ length row + length (entries_of p ts)
unfolding tabled row_after entries_of
tabled_length p row [] = omega arith
tabled_length p row (t ∷ ts) = by (head_of t.bytes) (λ q r. tabled_length q r ts)
  where
    by : (head : Head) → ((q : ℕ) (r : List ℕ) → length (tabled q r (lines_of ts)) ≡ length r + length (entries_of q ts))
        → length (tabled p row (record { kind = kind_of head; place = t.place } ∷ lines_of ts)) ≡ length row + length (entries_by p head t.place (λ q. entries_of q ts))
    by (ProgramLine n) rest =
        let x = entry_of (line_key n) t.place in omega (arith, rest n (inserted x row), inserted_length x row)
    by (BlockLine n) rest =
        let x = entry_of (block_key p n) t.place in omega (arith, rest p (inserted x row), inserted_length x row)
    by Blank rest = rest p row
    by (Other lacks) rest = rest p row

-- ---- the row never outgrows the table
filed_fits : (size : ℕ) (f : Filled) (head : Head) (place : ℕ) → length f.row ≤ size → room_alarm size f.row head ≡ 0 → length (filed f head place).row ≤ size
unfolding filed room_alarm
filed_fits size f (ProgramLine n) place h e = more (leb size (length f.row)) refl e
  where
    more : (t : Bool) → leb size (length f.row) ≡ t → cond t alarms.places_too_short 0 ≡ 0 → length (inserted (entry_of (line_key n) place) f.row) ≤ size
    more true q z = absurd (omega (arith, z))
    more false q z = omega (arith, leb-false size (length f.row) q, inserted_length (entry_of (line_key n) place) f.row)
filed_fits size f (BlockLine n) place h e = more (leb size (length f.row)) refl e
  where
    more : (t : Bool) → leb size (length f.row) ≡ t → cond t alarms.places_too_short 0 ≡ 0 → length (inserted (entry_of (block_key f.present n) place) f.row) ≤ size
    more true q z = absurd (omega (arith, z))
    more false q z = omega (arith, leb-false size (length f.row) q, inserted_length (entry_of (block_key f.present n) place) f.row)
filed_fits size f Blank place h e = h
filed_fits size f (Other lacks) place h e = h

lines_fit : (points : Bool) (size first end : ℕ) (ts : List Text) (h : History) (f : Filled) → length f.row ≤ size → length (read_lines_with points size first end h f ts).row ≤ size
unfolding read_lines_with
lines_fit points size first end [] h f l = l
lines_fit points size first end (t ∷ ts) h f l =
    go (eqb (alarm_with points size h f (judged t.bytes)) 0) refl (ends_with (judged t.bytes).head (judged t.bytes).ends) (λ k g m. lines_fit points size first end ts k g m)
  where
    j : Judged
    j = judged t.bytes

    g : Filled
    g = filed f j.head t.place

    go : (u : Bool) → eqb (alarm_with points size h f (judged t.bytes)) 0 ≡ u → (v : Bool)
        → ((k : History) (g : Filled) → length g.row ≤ size → length (read_lines_with points size first end k g ts).row ≤ size)
        → length (cond {A = Readings} u (cond v (record { read = read.Whole first t.after; row = g.row }) (read_lines_with points size first end (noted h j.head) g ts)) (record { read = read.Alarm (alarm_with points size h f j) t.place; row = f.row })).row ≤ size
    go false q v rest = l
    go true q v rest = which v
      where
        fits : length g.row ≤ size
        fits = filed_fits size f j.head t.place l (none_room points size h f j (eqb-true (alarm_with points size h f j) 0 q))

        which : (v : Bool) → length (cond {A = Readings} v (record { read = read.Whole first t.after; row = g.row }) (read_lines_with points size first end (noted h j.head) g ts)).row ≤ size
        which true = fits
        which false = rest (noted h j.head) g fits

row_fits : (points : Bool) (size : ℕ) (tape : List ℕ) → length (read_with points size tape).row ≤ size
unfolding read_with
row_fits points size tape = go (ltb (seek_from opens_tape tape 0) (length tape))
  where
    go : (t : Bool)
        → length (cond {A = Readings} t (read_lines_with points size (seek_from opens_tape tape 0) (length tape) nothing_read nothing_filled (lines tape (seek_from opens_tape tape 0))) (record { read = read.Alarm alarms.no_program 0; row = [] })).row ≤ size
    go true = lines_fit points size (seek_from opens_tape tape 0) (length tape) (lines tape (seek_from opens_tape tape 0)) nothing_read nothing_filled (omega arith)
    go false = omega arith

-- ---- of every input
pub none_after : (places : List ℕ) → TableAfter [] places ([] ++ drop 0 places)
unfolding entries_of
none_after places = record { row = []; ascends = tt; entries = λ e. refl; counted = refl; is = refl; fits = omega arith }

read_after : (points : Bool) (tape : List ℕ) → length tape ≤ longest_tape → (places : List ℕ)
    → let row = (read_with points (length places) tape).row in TableAfter (accepted_of points (length places) tape) places (row ++ drop (length row) places)
read_after points tape short places =
    let row = (read_with points (length places) tape).row in
    let accepted = accepted_of points (length places) tape in
    let same : row ≡ tabled no_program [] (lines_of accepted) = row_accepted points (length places) tape in record {
      row = row;
      ascends = subst Row (sym same) (table_row (lines_of accepted) (all_accepted points (length places) tape short));
      entries = λ e. ap (among e) same ∙ tabled_members e no_program [] accepted;
      counted = omega (arith, ap length same, tabled_length no_program [] accepted);
      is = refl;
      fits = row_fits points (length places) tape;
    }

pub table_after : (tape : List ℕ) (table : List ℤ) (set : Settings) (places : List ℕ) (bytes : ℕ)
    → TableAfter (accepted_in tape table set (length places) bytes) places (places_of tape table set places bytes)
unfolding accepted_in row_of
table_after tape table set places bytes = go (settings_wrong table set) (ltb longest_tape (length tape)) refl (ltb bytes header_size)
  where
    read_row : List ℕ
    read_row = (read_with set.points (length places) tape).row

    lines_in : List Text
    lines_in = accepted_of set.points (length places) tape

    go : (a b : Bool) → ltb longest_tape (length tape) ≡ b → (c : Bool)
        → let row = cond a [] (cond b [] (cond c [] read_row)) in TableAfter (cond a [] (cond b [] (cond c [] lines_in))) places (row ++ drop (length row) places)
    go true b q c = none_after places
    go false true q c = none_after places
    go false false q true = none_after places
    go false false q false = read_after set.points tape (ltb-false longest_tape (length tape) q) places

-- ---- all lists and alarms stay
pub lists_stay : (tape : List ℕ) (table : List ℤ) (set : Settings) (size bytes : ℕ) → ListsStay tape table set size bytes
lists_stay tape table set size bytes = record { unless = stays_unless tape table set size bytes; enough = λ long. all_stay tape table set size long bytes }
