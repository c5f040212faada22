-- A line's alarm is the first of its order, and reading stops at the first line that has one.
-- Assumes nothing.
use mathlib.Core.Path.{◌≡◌, refl, sym, ap, subst, ◌∙◌}
use mathlib.Core.Bool.{Bool, true, false, cond, ◌&&◌}
use mathlib.Core.List.{List, [], ◌∷◌, ◌++◌, append-nil}
use Prim.Native.Nat.{ℕ, suc, ◌+◌}
use native.Mathlib.Omega.{arith}
use lib.Dec.{leb, ltb, eqb}
use lib.ListN.{length}
use borrow.Author.Tests.{eqb-true, eqb-false, eq-eqb, ne_eqb}
use Rattle.alarms.specs.Numbers.{bad_byte_or_number, bad_line_start, line_too_long, missing_point, word_rules, places_too_short}
use Rattle.tape.specs.Lines.{Text}
use Rattle.block.specs.Words.{longest_line, line_of}
use Rattle.block.specs.declared.Block.{Block}
use Rattle.block.specs.declared.Head.{Head}
use Rattle.block.specs.declared.Head.TheVariants.{Blank, ProgramLine, BlockLine, Other}
use Rattle.block.specs.declared.ReadLine.{ReadLine}
use Rattle.showing.specs.Showing.{broken_by, lacks_by, refused_line, judged}
use Rattle.showing.specs.declared.Judged.{Judged}
use Rattle.reading.specs.Reading.{History, head_alarm, line_alarm, noted, ends_with}
use Rattle.reading.specs.Filling.{Filled, filed, room_alarm, alarm_with, Readings, read_lines_with}
use Rattle.places.proofs.Rows.{inserted_length}
use Rattle.reading.specs.declared.Read.{Read}
use Rattle.reading.specs.declared.Read.TheVariants.{Whole, Alarm}
use Rattle.alarmed.specs.Order.{Passes, Refused}
use Rattle.alarmed.specs.Tests.{Input, overlong, unreadable, point_missing, starts_badly, start_bad, rules_broken, is_entry, table_full, line_order}
use Rattle.alarmed.specs.Alarmed.{Sofar, as_line, with, is_last, Accepted, none, one, Reached}
use Rattle.alarmed.proofs.Orders.{first, Above, passes, refused, passes_first, refused_first, refused_some}

-- ---- the table of places: as many entries as program lines and blocks were read
add_one : (n : ℕ) → suc n ≡ n + 1
add_one n = omega arith

filed_more : (f : Filled) (k : Head) (place : ℕ) → length (filed f k place).row ≡ length f.row + cond (is_entry k) 1 0
unfolding filed is_entry
filed_more f Blank place = omega arith
filed_more f (Other lacks) place = omega arith
filed_more f (ProgramLine n) place = (inserted_length _ f.row ∙ add_one (length f.row))
filed_more f (BlockLine n) place = (inserted_length _ f.row ∙ add_one (length f.row))

-- ---- one line
-- 22 behind 6 and 9
behind_rules : (bad broken : Bool) (room : ℕ)
    → cond bad bad_line_start (cond broken word_rules room) ≡ cond (eqb (cond bad bad_line_start (cond broken word_rules 0)) 0) room (cond bad bad_line_start (cond broken word_rules 0))
behind_rules true broken room = refl
behind_rules false true room = refl
behind_rules false false room = refl

head_first : (h : History) (k : Head) (b : Block) (size : ℕ) (row : List ℕ)
    → cond (starts_badly h k) bad_line_start (cond (broken_by k b) word_rules (cond (is_entry k && leb size (length row)) places_too_short 0))
    ≡ cond (eqb (head_alarm h k (broken_by k b)) 0) (room_alarm size row k) (head_alarm h k (broken_by k b))
unfolding starts_badly broken_by head_alarm is_entry room_alarm
head_first h Blank b size row = refl
head_first h (Other lacks) b size row = refl
head_first h (ProgramLine n) b size row = behind_rules (starts_badly h (ProgramLine n)) (broken_by (ProgramLine n) b) (room_alarm size row (ProgramLine n))
head_first h (BlockLine n) b size row = behind_rules (starts_badly h (BlockLine n)) (broken_by (BlockLine n) b) (room_alarm size row (BlockLine n))

-- by whether it is too long, whether it can be read and whether a point is missing
module _ (h : History) (r : ReadLine) (size : ℕ) (f : Filled) where
  abbrev ruled : ℕ
  ruled = cond (starts_badly h r.head) bad_line_start (cond (broken_by r.head r.block) word_rules (cond (is_entry r.head && leb size (length f.row)) places_too_short 0))

  abbrev readable : Bool → Judged
  readable lacks = record { alarm = 0; head = r.head; pointless = lacks; broken = broken_by r.head r.block; ends = r.block.ends }

  abbrev shown : Bool → Bool → Bool → Judged
  shown long bad lacks = cond long (refused_line line_too_long) (cond bad (refused_line bad_byte_or_number) (readable lacks))

  alarm_by_lem : (points long bad lacks : Bool) → cond long line_too_long (cond bad bad_byte_or_number (cond (points && lacks) missing_point ruled)) ≡ alarm_with points size h f (shown long bad lacks)
  unfolding line_alarm alarm_with
  alarm_by_lem points true bad lacks = refl
  alarm_by_lem points false true lacks = refl
  alarm_by_lem true false false true = refl
  alarm_by_lem true false false false = head_first h r.head r.block size f.row
  alarm_by_lem false false false lacks = head_first h r.head r.block size f.row

  -- what an accepted line shows
  head_by_lem : (points long bad lacks : Bool) → alarm_with points size h f (shown long bad lacks) ≡ 0 → (shown long bad lacks).head ≡ r.head
  unfolding line_alarm alarm_with
  head_by_lem points true bad lacks e = absurd (omega (arith, e))
  head_by_lem points false true lacks e = absurd (omega (arith, e))
  head_by_lem points false false lacks e = refl

  ends_by : (points long bad lacks : Bool) → alarm_with points size h f (shown long bad lacks) ≡ 0 → (shown long bad lacks).ends ≡ r.block.ends
  unfolding line_alarm alarm_with
  ends_by points true bad lacks e = absurd (omega (arith, e))
  ends_by points false true lacks e = absurd (omega (arith, e))
  ends_by points false false lacks e = refl

above : Above line_order
above = refl

-- a line behind what was read, with the table so far
module _ (i : Input) (h : Sofar) (f : Filled) (kept : length f.row ≡ h.entries) (t : Text) where
  abbrev j : Judged
  j = judged t.bytes

  abbrev points : Bool
  points = i.settings.points

  abbrev alarm : ℕ
  alarm = alarm_with points i.size h.history f j

  abbrev long : Bool
  long = ltb longest_line (length t.bytes)

  abbrev bad : Bool
  bad = (line_of t.bytes).faulty

  abbrev lacks : Bool
  lacks = lacks_by (line_of t.bytes).head (line_of t.bytes).block.pointless

  line_first : first line_order (as_line i h t) ≡ alarm
  unfolding first overlong unreadable point_missing start_bad rules_broken table_full judged
  line_first = subst (λ (n : ℕ). first line_order (record { text = t.bytes; history = h.history; entries = n; points = points; size = i.size }) ≡ alarm) kept
      (alarm_by_lem h.history (line_of t.bytes) i.size f points long bad lacks)

  head_same : alarm ≡ 0 → j.head ≡ (line_of t.bytes).head
  unfolding judged
  head_same e = head_by_lem h.history (line_of t.bytes) i.size f points long bad lacks e

  ends_same : alarm ≡ 0 → j.ends ≡ (line_of t.bytes).block.ends
  unfolding judged
  ends_same e = ends_by h.history (line_of t.bytes) i.size f points long bad lacks e

  line_passes : alarm ≡ 0 → Passes (as_line i h t) line_order
  line_passes e = passes (as_line i h t) line_order above (line_first ∙ e)

  line_refused : (alarm ≡ 0 → ⊥) → Refused (as_line i h t) alarm line_order
  line_refused some = refused (as_line i h t) alarm some line_order line_first

  last_same : alarm ≡ 0 → ends_with j.head j.ends ≡ is_last t
  last_same e = (λ k. ends_with (head_same e k) (ends_same e k))

  -- what is read and filed with it
  abbrev next : Filled
  next = filed f j.head t.place

  noted_same : alarm ≡ 0 → noted h.history j.head ≡ (with h t).history
  noted_same e = ap (noted h.history) (head_same e)

  kept_on : alarm ≡ 0 → length next.row ≡ (with h t).entries
  kept_on e = filed_more f j.head t.place ∙ ap (λ (k : Head). length f.row + cond (is_entry k) 1 0) (head_same e) ∙ ap (λ (n : ℕ). n + cond (is_entry (line_of t.bytes).head) 1 0) kept

-- ---- the lines, one after the other: what reading came to
pub data Came (i : Input) (from end : ℕ) (h : Sofar) (ts : List Text) : Read → Type 0 where
  whole : {k : Sofar} → Accepted i h ts k → Came i from end h ts (Whole from end)
  ended : {k : Sofar} {line : Text} → Reached i h ts k line → Passes (as_line i k line) line_order → is_last line ≡ true → Came i from end h ts (Whole from line.after)
  stopped : {k : Sofar} {line : Text} {n : ℕ} → Reached i h ts k line → Refused (as_line i k line) n line_order → Came i from end h ts (Alarm n line.place)

reached_first : (i : Input) (h : Sofar) (t : Text) (ts : List Text) → Reached i h (t ∷ ts) h t
reached_first i h t ts = record { before = []; behind = ts; are = refl; accepted = none }

reached_later : (i : Input) (h : Sofar) (t : Text) (ts : List Text) → Passes (as_line i h t) line_order → is_last t ≡ false → {k : Sofar} {line : Text} → Reached i (with h t) ts k line → Reached i h (t ∷ ts) k line
reached_later i h t ts p l c = record { before = t ∷ c.before; behind = c.behind; are = ap (λ (x : List Text). t ∷ x) c.are; accepted = one p l c.accepted }

-- the lines as they are read
abbrev pub read_from : Input → ℕ → ℕ → History → Filled → List Text → Readings
read_from i from end h f ts = read_lines_with i.settings.points i.size from end h f ts

module _ (i : Input) (from end : ℕ) (h : Sofar) (f : Filled) (kept : length f.row ≡ h.entries) (t : Text) (ts : List Text) where
  behind_one : Passes (as_line i h t) line_order → is_last t ≡ false → (r : Read) → Came i from end (with h t) ts r → Came i from end h (t ∷ ts) r
  behind_one p l r (whole a) = whole (one p l a)
  behind_one p l r (ended c q g) = ended (reached_later i h t ts p l c) q g
  behind_one p l r (stopped c q) = stopped (reached_later i h t ts p l c) q

  by_end : alarm i h f kept t ≡ 0 → (last : Bool) → ends_with (j i h f kept t).head (j i h f kept t).ends ≡ last → (row : List ℕ) (rest : Readings) → Came i from end (with h t) ts rest.read
      → Came i from end h (t ∷ ts) (cond last (record { read = Whole from t.after; row = row }) rest).read
  by_end e true l row rest c = ended (reached_first i h t ts) (line_passes i h f kept t e) (sym (last_same i h f kept t e) ∙ l)
  by_end e false l row rest c = behind_one (line_passes i h f kept t e) (sym (last_same i h f kept t e) ∙ l) rest.read c

  by_alarm : (free : Bool) → eqb (alarm i h f kept t) 0 ≡ free → (row before : List ℕ) (rest : Readings) → (alarm i h f kept t ≡ 0 → Came i from end (with h t) ts rest.read)
      → Came i from end h (t ∷ ts)
      (cond free (cond (ends_with (j i h f kept t).head (j i h f kept t).ends) (record { read = Whole from t.after; row = row }) rest) (record { read = Alarm (alarm i h f kept t) t.place; row = before })).read
  by_alarm true e row before rest c =
      let free = eqb-true (alarm i h f kept t) 0 e in by_end free (ends_with (j i h f kept t).head (j i h f kept t).ends) refl row rest (c free)
  by_alarm false e row before rest c = stopped (reached_first i h t ts) (line_refused i h f kept t (eqb-false (alarm i h f kept t) 0 e))

pub came : (i : Input) (from end : ℕ) (h : Sofar) (f : Filled) → length f.row ≡ h.entries → (ts : List Text) → Came i from end h ts (read_from i from end h.history f ts).read
unfolding read_lines_with
came i from end h f kept [] = whole none
came i from end h f kept (t ∷ ts) =
    let g = next i h f kept t in
    by_alarm i from end h f kept t ts (eqb (alarm i h f kept t) 0) refl g.row f.row (read_from i from end (noted h.history (j i h f kept t).head) g ts)
    (λ e. subst (λ (k : History). Came i from end (with h t) ts (read_from i from end k g ts).read) (sym (noted_same i h f kept t e)) (came i from end (with h t) g (kept_on i h f kept t e) ts))

-- ---- and back: lines that are accepted are passed, and the line that is refused, or with which reading ends, is where it stops
module _ (i : Input) (from end : ℕ) (h : Sofar) (f : Filled) (kept : length f.row ≡ h.entries) (t : Text) (ts : List Text) where
  abbrev read_on : Bool → Bool → History → Readings
  read_on free last k =
      let g = next i h f kept t in
      cond free (cond last (record { read = Whole from t.after; row = g.row }) (read_from i from end k g ts)) (record { read = Alarm (alarm i h f kept t) t.place; row = f.row })

  free_is : Passes (as_line i h t) line_order → alarm i h f kept t ≡ 0
  free_is p = sym (line_first i h f kept t) ∙ passes_first (as_line i h t) p

  passed : (last : Bool) → Passes (as_line i h t) line_order → is_last t ≡ last → read_from i from end h.history f (t ∷ ts) ≡ read_on true last (with h t).history
  unfolding read_lines_with
  passed last p l =
      let e = free_is p in
      λ k. read_on (eq-eqb (alarm i h f kept t) 0 e k) ((last_same i h f kept t e ∙ l) k) (noted_same i h f kept t e k)

  halted : {n : ℕ} → Refused (as_line i h t) n line_order → (read_from i from end h.history f (t ∷ ts)).read ≡ Alarm n t.place
  unfolding read_lines_with
  halted {n} r =
      let e : alarm i h f kept t ≡ n = sym (line_first i h f kept t) ∙ refused_first (as_line i h t) r in
      let some : alarm i h f kept t ≡ 0 → ⊥ = λ z. refused_some (as_line i h t) above r (sym e ∙ z) in
      ap (λ (free : Bool). (read_on free (ends_with (j i h f kept t).head (j i h f kept t).ends) (noted h.history (j i h f kept t).head)).read) (ne_eqb (alarm i h f kept t) 0 some)
      ∙ ap (λ (m : ℕ). Alarm m t.place) e

-- the table behind some lines that are accepted, and what is read from there
record Behind (i : Input) (from end : ℕ) (h : Sofar) (f : Filled) (ts : List Text) (k : Sofar) (rest : List Text) : Type 0 where
  filled : Filled
  kept : length filled.row ≡ k.entries
  same : read_from i from end h.history f (ts ++ rest) ≡ read_from i from end k.history filled rest

accepted_on : (i : Input) (from end : ℕ) {h k : Sofar} {ts : List Text} → Accepted i h ts k → (f : Filled) → length f.row ≡ h.entries → (rest : List Text) → Behind i from end h f ts k rest
accepted_on i from end none f kept rest = record { filled = f; kept = kept; same = refl }
accepted_on i from end {h} (one {t = t} {ts = ts} p l a) f kept rest =
    let e = free_is i from end h f kept t (ts ++ rest) p in
    let b = accepted_on i from end a (next i h f kept t) (kept_on i h f kept t e) rest in
    record { filled = b.filled; kept = b.kept; same = passed i from end h f kept t (ts ++ rest) false p l ∙ b.same }

module _ (i : Input) (from end : ℕ) {h k : Sofar} {ts : List Text} (f : Filled) (kept : length f.row ≡ h.entries) where
  pub accepted_all : Accepted i h ts k → (read_from i from end h.history f ts).read ≡ Whole from end
  unfolding read_lines_with
  accepted_all a = ap (λ (x : List Text). (read_from i from end h.history f x).read) (sym (append-nil ts)) ∙ ap (λ (x : Readings). x.read) (accepted_on i from end a f kept []).same

  module _ {line : Text} (c : Reached i h ts k line) where
    abbrev b : Behind i from end h f c.before k (line ∷ c.behind)
    b = accepted_on i from end c.accepted f kept (line ∷ c.behind)

    up_to : read_from i from end h.history f ts ≡ read_from i from end k.history b.filled (line ∷ c.behind)
    up_to = ap (read_from i from end h.history f) c.are ∙ b.same

    pub reached_ended : Passes (as_line i k line) line_order → is_last line ≡ true → (read_from i from end h.history f ts).read ≡ Whole from line.after
    reached_ended p l = ap (λ (x : Readings). x.read) (up_to ∙ passed i from end k b.filled b.kept line c.behind true p l)

    pub reached_refused : {n : ℕ} → Refused (as_line i k line) n line_order → (read_from i from end h.history f ts).read ≡ Alarm n line.place
    reached_refused r = ap (λ (x : Readings). x.read) up_to ∙ halted i from end k b.filled b.kept line c.behind r
