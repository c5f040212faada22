-- Missing points: with the setting off nothing gives 21, and a tape in which no number lacks its point gives the same with the setting on and off.
-- Assumes nothing.
use mathlib.Core.Path.{◌≡◌, refl, ap, ◌∙◌, subst}
use mathlib.Core.Bool.{Bool, true, false, cond, ◌||◌}
use mathlib.Core.List.{List, [], ◌∷◌}
use Prim.Native.Nat.{ℕ}
use native.Mathlib.Omega.{arith}
use lib.Dec.{ltb, eqb}
use lib.IntN.{ℤ}
use lib.ListN.{length}
use Rattle.alarms.specs.Numbers.{bad_settings, tape_too_long, buffer_too_short, no_program, bad_byte_or_number, line_too_long, missing_point}
use Rattle.alarms.specs.Given.{IsAlarm}
use Rattle.alarms.proofs.Above.{not_missing}
use Rattle.settings.specs.Points.{with_points}
use Rattle.settings.specs.Wrong.{settings_wrong}
use Rattle.settings.specs.declared.Settings.{Settings}
use Rattle.moves.specs.Form.{header_size}
use Rattle.letters.specs.Letters.{letter_n}
use Rattle.tape.specs.Lines.{seek_from, opens_tape, Text, lines}
use Rattle.numbers.proofs.Bounds.{cond_ind}
use Rattle.addresses.specs.Words.{Words, word, ended, faulty, onward, next_word, lacks_point, words_from}
use Rattle.addresses.specs.declared.Word.{Word}
use Rattle.addresses.specs.declared.NextWord.{NextWord}
use Rattle.addresses.specs.declared.NextWord.TheVariants as next
use Rattle.addresses.proofs.Wording.{words_more}
use Rattle.block.specs.declared.Block.{Block}
use Rattle.block.specs.declared.Head.{Head}
use Rattle.block.specs.declared.Head.TheVariants.{ProgramLine, BlockLine, Other}
use Rattle.block.specs.declared.ReadLine.{ReadLine}
use Rattle.block.specs.declared.Rest.{Rest}
use Rattle.block.specs.declared.Slot.{Slot}
use Rattle.block.specs.declared.Slot.TheVariants as slot
use Rattle.block.specs.Words.{longest_line, number_in, slot_of, no_words, put_in, put_word, is_program_address, faulty_rest, gather, head_by, line_by, line_of}
use Rattle.showing.specs.Showing.{broken_by, lacks_by, refused_line, judged_by, judged}
use Rattle.showing.specs.declared.Judged.{Judged}
use Rattle.reading.specs.Reading.{History, nothing_read, head_alarm, line_alarm, noted, ends_with}
use Rattle.reading.specs.Filling.{Filled, nothing_filled, filed, room_alarm, alarm_with, Readings, after_line_with, read_lines_with, read_with, places_behind}
use Rattle.reading.specs.declared.Read.{Read}
use Rattle.reading.specs.declared.Read.TheVariants as read
use Rattle.interpreter.specs.of_answers.declared.Answer.TheVariants.{Alarm}
use Rattle.interpreter.specs.Answers.{Result, refused, read_then, longest_tape, interpretation_by, interpretation, row_of, laid_by}
use Rattle.demands.specs.Demands.{Named}
use Rattle.demands.specs.Points.{OffNo21, WordsPointed, LinesPointed, Pointed, PointsSame}
use Rattle.demands.proofs.Holding.{all_owed}

-- ---- a line
neither : (a b : Bool) → a ≡ false → b ≡ false → (a || b) ≡ false
neither true b e f = e
neither false b e f = f

put_in_lem : (k : Slot) (b : Block) (w : Word) → (put_in k b w).pointless ≡ (b.pointless || lacks_point w)
put_in_lem (slot.At k) b w = refl
put_in_lem slot.Late b w = refl
put_in_lem slot.Unknown b w = refl

put_pointed : (b : Block) (w : Word) → b.pointless ≡ false → lacks_point w ≡ false → (put_word b w).pointless ≡ false
unfolding put_word
put_pointed b w h a = put_in_lem (slot_of w) b w ∙ neither b.pointless (lacks_point w) h a

gather_pointed : (b : Block) (ws : Words) → b.pointless ≡ false → WordsPointed ws → (gather b ws).block.pointless ≡ false
unfolding gather faulty_rest no_words
gather_pointed b ended h a = h
gather_pointed b faulty h a = refl
gather_pointed b (word w ws) h a =
    cond_ind (λ (r : Rest). r.block.pointless ≡ false) (is_program_address w.address) faulty_rest (gather (put_word b w) ws) (λ _. refl)
    (gather_pointed (put_word b w) ws (put_pointed b w h a.0) a.1)

none_pointless : no_words.pointless ≡ false
unfolding no_words
none_pointless = refl

-- the first word, which is another one than a number of a program or a block, or one of these, which have no point to lack
head_pointed : (w : Word) (behind : Bool) → lacks_point w ≡ false → behind ≡ false → lacks_by (head_by w) behind ≡ false
unfolding head_by lacks_by
head_pointed w behind l e =
    let P : Head → Type 0 = λ h. lacks_by h behind ≡ false in
    let n = number_in w in
    let another = cond (eqb w.address letter_n) (BlockLine n) (Other (lacks_point w)) in
    cond_ind P (is_program_address w.address) (ProgramLine n) another (λ _. e)
    (cond_ind P (eqb w.address letter_n) (BlockLine n) (Other (lacks_point w)) (λ _. e) (neither (lacks_point w) behind l e))

abbrev Has : ReadLine → Type 0
Has r = lacks_by r.head r.block.pointless ≡ false

by_next : (s : List ℕ) (n : NextWord) → WordsPointed (onward n (λ end. words_from s end)) → Has (line_by s n)
unfolding gather faulty_rest lacks_by
by_next s next.Fault a = none_pointless
by_next s next.End a = none_pointless
by_next s (next.Word w end) a = head_pointed w (gather no_words (words_from s end)).block.pointless a.0 (gather_pointed no_words (words_from s end) none_pointless a.1)

line_pointed : (s : List ℕ) → WordsPointed (words_from s 0) → Has (line_of s)
unfolding line_of
line_pointed s a = by_next s (next_word s 0) (subst WordsPointed (words_more s 0 (omega arith)) a)

judged_pointed : (s : List ℕ) → WordsPointed (words_from s 0) → (judged s).pointless ≡ false
unfolding judged lacks_by
judged_pointed s a =
    let P : Judged → Type 0 = λ j. j.pointless ≡ false in
    let r = line_of s in
    let well : Judged = record { alarm = 0; head = r.head; pointless = lacks_by r.head r.block.pointless; broken = broken_by r.head r.block; ends = r.block.ends } in
    cond_ind P (ltb longest_line (length s)) (refused_line line_too_long) (judged_by r) (λ _. refl)
    (cond_ind P r.faulty (refused_line bad_byte_or_number) well (λ _. refl) (line_pointed s a))

-- ---- a tape
line_same : (h : History) (j : Judged) → j.pointless ≡ false → line_alarm true h j ≡ line_alarm false h j
unfolding line_alarm
line_same h j e = ap (λ (t : Bool). cond (eqb j.alarm 0) (cond t missing_point (head_alarm h j.head j.broken)) j.alarm) e

alarm_same : (size : ℕ) (h : History) (f : Filled) (j : Judged) → j.pointless ≡ false → alarm_with true size h f j ≡ alarm_with false size h f j
unfolding alarm_with
alarm_same size h f j e = ap (λ (n : ℕ). cond (eqb n 0) (room_alarm size f.row j.head) n) (line_same h j e)

lines_same : (size first end : ℕ) (h : History) (f : Filled) (ts : List Text) → LinesPointed ts → read_lines_with true size first end h f ts ≡ read_lines_with false size first end h f ts
unfolding read_lines_with LinesPointed
lines_same size first end h f [] a = refl
lines_same size first end h f (t ∷ ts) a =
    let j = judged t.bytes in
    let g = filed f j.head t.place in
    λ i.
    after_line_with first (alarm_same size h f j (judged_pointed t.bytes a.0) i) (ends_with j.head j.ends) t f.row g.row (lines_same size first end (noted h j.head) g ts a.1 i)

read_same : (size : ℕ) (tape : List ℕ) → Pointed tape → read_with true size tape ≡ read_with false size tape
unfolding read_with
read_same size tape a =
    let first = seek_from opens_tape tape 0 in
    ap (λ (r : Readings). cond (ltb first (length tape)) r (record { read = read.Alarm no_program 0; row = [] })) (lines_same size first (length tape) nothing_read nothing_filled (lines tape first) a)

-- ---- of every input
module _ (tape : List ℕ) (table : List ℤ) (set : Settings) where
  -- a run has no such setting
  run_same : (bytes : ℕ) (r : Read) → read_then tape table (with_points true set) bytes r ≡ read_then tape table (with_points false set) bytes r
  unfolding read_then
  run_same bytes (read.Whole first end) = refl
  run_same bytes (read.Alarm alarm place) = refl

  whole_same : (size bytes : ℕ) → Pointed tape → interpretation tape table (with_points true set) size bytes ≡ interpretation tape table (with_points false set) size bytes
  unfolding interpretation interpretation_by settings_wrong
  whole_same size bytes a =
      ap (λ (x : Result).
      cond (settings_wrong table set) (refused bad_settings 0) (cond (ltb longest_tape (length tape)) (refused tape_too_long 0) (cond (ltb bytes header_size) (refused buffer_too_short 0) x)))
      (ap (λ (x : Readings). read_then tape table (with_points true set) bytes x.read) (read_same size tape a) ∙ run_same bytes (read_with false size tape).read)

  row_same : (size bytes : ℕ) → Pointed tape → row_of tape table (with_points true set) size bytes ≡ row_of tape table (with_points false set) size bytes
  unfolding row_of settings_wrong
  row_same size bytes a =
      ap (λ (x : Readings). cond (settings_wrong table set) [] (cond (ltb longest_tape (length tape)) [] (cond (ltb bytes header_size) [] x.row))) (read_same size tape a)

  pub points_same : (places b : List ℕ) → PointsSame tape table set places b
  points_same places b a =
      let e = whole_same (length places) (length b) a in
      (ap (λ (x : Result). x.answer) e, ap (λ (r : List ℕ). places_behind r places) (row_same (length places) (length b) a), ap (λ (x : Result). laid_by x b) e)

  pub off_no_21 : (size : ℕ) (b : List ℕ) → OffNo21 tape table set size b
  off_no_21 size b off place count e =
      not_missing (subst (λ (points : Bool). IsAlarm points missing_point) off ((subst (Named set.points) e (all_owed tape table set size b).told.number).alarm (λ z. omega (arith, z))))
