-- What is looked up in the table of places of a tape that was read equals what the walk along its lines finds. 02, request 8: "Prove that each finding equals the first layout's walk along the tape".
-- Assumes nothing.
use mathlib.Core.Path.{◌≡◌, refl, sym, ap, ◌∙◌, subst}
use mathlib.Core.Bool.{Bool, true, false, cond, ◌&&◌, ◌||◌}
use mathlib.Core.List.{List, [], ◌∷◌}
use Prim.Native.Nat.{ℕ, zero, suc, ◌-◌, ◌<◌, ◌≤◌}
use native.Mathlib.Omega.{arith}
use lib.Dec.{T, ltb, eqb}
use lib.ListN.{length, take}
use lib.Seq.{length-take-le}
use borrow.Author.Tests.{ltb-true, ltb-false, eqb-true, eqb-false}
use Rattle.alarms.specs.Numbers.{missing_point}
use Rattle.alarms.specs.Numbers as alarms
use Rattle.settings.specs.Wrong.{highest_program}
use Rattle.places.specs.Places.{sixteen_bits, line_key, block_key}
use Rattle.places.specs.Lines.{no_program, program_after, row_after, tabled, Fresh, Accepted}
use Rattle.places.proofs.Walks.{not_held}
use Rattle.whole.specs.Among.{among}
use Rattle.tape.specs.Lines.{seek_from, opens_tape, line_at, LineIn, Text, text_at, lines_up, lines}
use Rattle.addresses.specs.Words.{next_word}
use Rattle.addresses.specs.declared.NextWord.{NextWord}
use Rattle.addresses.specs.declared.NextWord.TheVariants as next
use Rattle.tape.proofs.Lining.{line_in_lem, lines_more, lines_end}
use Rattle.showing.specs.Showing.{refused_line, judged, judged_by}
use Rattle.block.specs.Words.{longest_line, head_of, head_of_next, line_by, line_of}
use Rattle.showing.specs.declared.Judged.{Judged}
use Rattle.block.specs.declared.ReadLine.{ReadLine}
use Rattle.block.specs.declared.Head.{Head}
use Rattle.block.specs.declared.Head.TheVariants.{Blank, ProgramLine, BlockLine, Other}
use Rattle.block.proofs.Heads.{HeadIn}
use Rattle.showing.proofs.Heads.{judged_in}
use Rattle.finding.specs.Finds.{Finds}
use Rattle.finding.proofs.Walking.{kind_of, lines_of, table_finds}
use Rattle.reading.specs.declared.Read.TheVariants.{Whole, Alarm}
use Rattle.reading.specs.Reading.{longest_tape, History, nothing_read, head_alarm, line_alarm, noted, ends_with}
use Rattle.reading.specs.Filling.{Filled, nothing_filled, filed, room_alarm, alarm_with, Readings, read_lines_with, read_with, accepted_lines, accepted_of}
use Rattle.reading.proofs.Noting.{Sound, sound_start, sound_program, sound_block}
use Rattle.reading.proofs.Cutting.{lines_cut}

-- ---- a line without alarm begins as the walk sees it
line_head : (s : List ℕ) (n : NextWord) → (line_by s n).head ≡ head_of_next n
line_head s next.Fault = refl
line_head s next.End = refl
line_head s (next.Word w end) = refl

pub judged_head : (s : List ℕ) → (judged s).alarm ≡ 0 → (judged s).head ≡ head_of s
unfolding judged head_of line_of
judged_head s e = go (ltb longest_line (length s)) e
  where
    by : (r : ReadLine) (f : Bool) → r.faulty ≡ f → (judged_by r).alarm ≡ 0 → (judged_by r).head ≡ r.head
    by r true q e = absurd (omega (arith, simp q at e))
    by r false q e = rw q

    go : (t : Bool) → (cond {A = Judged} t (refused_line 7) (judged_by (line_by s (next_word s 0)))).alarm ≡ 0
        → (cond {A = Judged} t (refused_line 7) (judged_by (line_by s (next_word s 0)))).head ≡ head_of_next (next_word s 0)
    go true e = absurd (omega arith)
    go false e = by (line_by s (next_word s 0)) (line_by s (next_word s 0)).faulty refl e ∙ line_head s (next_word s 0)

-- ---- a line's alarm is 0: it shows none by itself, its head none, and there is room for it
none_of : (a b : ℕ) → cond (eqb a 0) b a ≡ 0 → (a ≡ 0) × (b ≡ 0)
none_of a b e = go (eqb a 0) refl e
  where
    go : (t : Bool) → eqb a 0 ≡ t → cond t b a ≡ 0 → (a ≡ 0) × (b ≡ 0)
    go true q z = (eqb-true a 0 q, z)
    go false q z = absurd (eqb-false a 0 q z)

cond_zero : (t : Bool) (n x : ℕ) → cond t (suc n) x ≡ 0 → (t ≡ false) × (x ≡ 0)
cond_zero true n x e = absurd (omega arith)
cond_zero false n x e = (refl, e)

module _ (points : Bool) (size : ℕ) (h : History) (f : Filled) (j : Judged) (e : alarm_with points size h f j ≡ 0) where
  none_own : line_alarm points h j ≡ 0
  unfolding alarm_with
  none_own = (none_of (line_alarm points h j) (room_alarm size f.row j.head) e).0

  pub none_room : room_alarm size f.row j.head ≡ 0
  unfolding alarm_with
  none_room = (none_of (line_alarm points h j) (room_alarm size f.row j.head) e).1

  pub none_itself : j.alarm ≡ 0
  unfolding line_alarm
  none_itself = (none_of j.alarm (cond (points && j.pointless) missing_point (head_alarm h j.head j.broken)) none_own).0

  pub none_head : head_alarm h j.head j.broken ≡ 0
  unfolding line_alarm
  none_head =
      (cond_zero (points && j.pointless) 20 (head_alarm h j.head j.broken)
      (none_of j.alarm (cond (points && j.pointless) missing_point (head_alarm h j.head j.broken)) none_own).1).1

-- ---- one line more
-- what is filed of a head is what the table's fold makes of it
pub filed_present : (f : Filled) (head : Head) (place : ℕ) → program_after f.present (kind_of head) ≡ (filed f head place).present
unfolding filed
filed_present f (ProgramLine n) place = refl
filed_present f (BlockLine n) place = refl
filed_present f Blank place = refl
filed_present f (Other lacks) place = refl

pub filed_row : (f : Filled) (head : Head) (place : ℕ) → row_after f.present f.row (kind_of head) place ≡ (filed f head place).row
unfolding filed row_after
filed_row f (ProgramLine n) place = refl
filed_row f (BlockLine n) place = refl
filed_row f Blank place = refl
filed_row f (Other lacks) place = refl

or_none : (a b : Bool) → (a || b) ≡ false → (a ≡ false) × (b ≡ false)
or_none true b e = absurd (subst T e tt)
or_none false b e = (refl, e)

module _ (h : History) (f : Filled) (s : Sound h f) (place : ℕ) (fits : place < sixteen_bits) (broken : Bool) where
  new_program : (n : ℕ) → head_alarm h (ProgramLine n) broken ≡ 0 → among n h.programs ≡ false
  unfolding head_alarm
  new_program n e = (or_none (ltb highest_program n) (among n h.programs) (cond_zero (ltb highest_program n || among n h.programs) 5 _ e).0).1

  new_block : (n : ℕ) → head_alarm h (BlockLine n) broken ≡ 0 → among n h.blocks ≡ false
  unfolding head_alarm
  new_block n e = (cond_zero (among n h.blocks) 5 _ e).0

  fresh_step : (head : Head) → HeadIn head → head_alarm h head broken ≡ 0 → Fresh f.present f.row (kind_of head)
  fresh_step (ProgramLine n) i e = (omega (arith, i), not_held (line_key n) f.row (s.flags n ∙ new_program n e))
  fresh_step (BlockLine n) i e = (omega (arith, i), not_held (block_key f.present n) f.row (s.marks n (omega (arith, i)) ∙ new_block n e))
  fresh_step Blank i e = tt
  fresh_step (Other lacks) i e = tt

  sound_step : (head : Head) → HeadIn head → head_alarm h head broken ≡ 0 → Sound (noted h head) (filed f head place)
  unfolding noted filed
  sound_step (ProgramLine n) i e = sound_program s n place fits (omega (arith, i)) (new_program n e)
  sound_step (BlockLine n) i e = sound_block s n place fits (omega (arith, i)) (new_block n e)
  sound_step Blank i e = s
  sound_step (Other lacks) i e = s

-- ---- all lines
abbrev Near : List Text → Type 0
Near [] = Unit {0}
Near (t ∷ ts) = (t.place < sixteen_bits) × Near ts

pub accepted : (points : Bool) (size : ℕ) (ts : List Text) (h : History) (f : Filled) → Sound h f → Near ts
    → Accepted f.present f.row (lines_of (accepted_lines points size h f ts))
unfolding accepted_lines
accepted points size [] h f s near = tt
accepted points size (t ∷ ts) h f s near =
    go (eqb (alarm_with points size h f (judged t.bytes)) 0) refl (ends_with (judged t.bytes).head (judged t.bytes).ends) (λ k g u. accepted points size ts k g u near.1)
  where
    go : (u : Bool) → eqb (alarm_with points size h f (judged t.bytes)) 0 ≡ u → (v : Bool)
        → ((k : History) (g : Filled) → Sound k g → Accepted g.present g.row (lines_of (accepted_lines points size k g ts)))
        → Accepted f.present f.row (lines_of (cond u (cond v (t ∷ []) (t ∷ accepted_lines points size (noted h (judged t.bytes).head) (filed f (judged t.bytes).head t.place) ts)) []))
    go false q v rest = tt
    go true q v rest = which v
      where
        j : Judged
        j = judged t.bytes

        g : Filled
        g = filed f j.head t.place

        zero_alarm : alarm_with points size h f j ≡ 0
        zero_alarm = eqb-true (alarm_with points size h f j) 0 q

        same : j.head ≡ head_of t.bytes
        same = judged_head t.bytes (none_itself points size h f j zero_alarm)

        with_rest : (rest : List Text) → Accepted g.present g.row (lines_of rest) → Accepted f.present f.row (lines_of (t ∷ rest))
        with_rest rest a =
            subst (λ (x : Head). Fresh f.present f.row (kind_of x) × (t.place < sixteen_bits) × Accepted (program_after f.present (kind_of x)) (row_after f.present f.row (kind_of x) t.place) (lines_of rest)) same (
              fresh_step h f s t.place near.0 j.broken j.head (judged_in t.bytes) (none_head points size h f j zero_alarm),
              near.0,
              subst (λ (x : ℕ). Accepted x (row_after f.present f.row (kind_of j.head) t.place) (lines_of rest)) (sym (filed_present f j.head t.place))
                  (subst (λ (x : List ℕ). Accepted g.present x (lines_of rest)) (sym (filed_row f j.head t.place)) a),
            )

        which : (v : Bool) → Accepted f.present f.row (lines_of (cond v (t ∷ []) (t ∷ accepted_lines points size (noted h j.head) g ts)))
        which true = with_rest [] tt
        which false = with_rest (accepted_lines points size (noted h j.head) g ts)
            (rest (noted h j.head) g (sound_step h f s t.place near.0 j.broken j.head (judged_in t.bytes) (none_head points size h f j zero_alarm)))

-- the row behind a reading, whatever came of it, is that of the lines that were accepted
pub read_row : (points : Bool) (size first end : ℕ) (ts : List Text) (h : History) (f : Filled)
    → (read_lines_with points size first end h f ts).row ≡ tabled f.present f.row (lines_of (accepted_lines points size h f ts))
unfolding read_lines_with accepted_lines tabled
read_row points size first end [] h f = refl
read_row points size first end (t ∷ ts) h f =
    go (eqb (alarm_with points size h f (judged t.bytes)) 0) refl (ends_with (judged t.bytes).head (judged t.bytes).ends) (λ k g. read_row points size first end ts k g)
  where
    j : Judged
    j = judged t.bytes

    k : History
    k = noted h j.head

    g : Filled
    g = filed f j.head t.place

    go : (u : Bool) → eqb (alarm_with points size h f (judged t.bytes)) 0 ≡ u → (v : Bool)
        → ((m : History) (n : Filled) → (read_lines_with points size first end m n ts).row ≡ tabled n.present n.row (lines_of (accepted_lines points size m n ts)))
        → (cond {A = Readings} u (cond v (record { read = Whole first t.after; row = g.row }) (read_lines_with points size first end k g ts)) (record { read = Alarm (alarm_with points size h f j) t.place; row = f.row })).row
        ≡ tabled f.present f.row (lines_of (cond u (cond v (t ∷ []) (t ∷ accepted_lines points size k g ts)) []))
    go false q v rest = refl
    go true q v rest = which v
      where
        same : j.head ≡ head_of t.bytes
        same = judged_head t.bytes (none_itself points size h f j (eqb-true (alarm_with points size h f j) 0 q))

        with_rest : (r : List Text) → tabled g.present g.row (lines_of r) ≡ tabled f.present f.row (lines_of (t ∷ r))
        with_rest r =
            ap (λ (x : ℕ). tabled x g.row (lines_of r)) (sym (filed_present f j.head t.place))
            ∙ ap (λ (x : List ℕ). tabled (program_after f.present (kind_of j.head)) x (lines_of r)) (sym (filed_row f j.head t.place))
            ∙ ap (λ (x : Head). tabled (program_after f.present (kind_of x)) (row_after f.present f.row (kind_of x) t.place) (lines_of r)) same

        which : (v : Bool) → (cond {A = Readings} v (record { read = Whole first t.after; row = g.row }) (read_lines_with points size first end k g ts)).row
            ≡ tabled f.present f.row (lines_of (cond v (t ∷ []) (t ∷ accepted_lines points size k g ts)))
        which true = with_rest []
        which false = rest k g ∙ with_rest (accepted_lines points size k g ts)

-- ---- a tape that was read without alarm, cut where reading ended, has exactly the lines that were accepted
record Cut (tape : List ℕ) (p : ℕ) (end : ℕ) (ts : List Text) : Type 0 where
  from : p ≤ end
  to : end ≤ length tape
  same : lines (take end tape) p ≡ ts

module _ (points : Bool) (size : ℕ) (tape : List ℕ) (first f₀ e : ℕ) where
  -- read to the end without alarm
  abbrev Ends : ℕ → History → Filled → Type 0
  Ends p h f = (read_lines_with points size first (length tape) h f (lines tape p)).read ≡ Whole f₀ e

  abbrev CutFrom : ℕ → History → Filled → Type 0
  CutFrom p h f = Cut tape p e (accepted_lines points size h f (lines tape p))

  cut_end : (p : ℕ) (h : History) (f : Filled) → p ≤ length tape → length tape ≤ p → Ends p h f → CutFrom p h f
  unfolding read_lines_with accepted_lines
  cut_end p h f l m r =
      let none : lines tape p ≡ [] = lines_end tape p m in
      let r' : Whole first (length tape) ≡ Whole f₀ e = ap (λ (x : List Text). (read_lines_with points size first (length tape) h f x).read) (sym none) ∙ r in
      let q : length tape ≡ e = cc in
      record {
        from = omega arith;
        to = omega arith;
        same = lines_end (take e tape) p (omega (arith, length-take-le e tape (omega arith))) ∙ ap (accepted_lines points size h f) (sym none);
      }

  cut_step : (p : ℕ) (h : History) (f : Filled) → p < length tape
      → ((k : History) (g : Filled) → Ends (line_at tape p).after k g → CutFrom (line_at tape p).after k g)
      → Ends p h f → CutFrom p h f
  unfolding read_lines_with accepted_lines
  cut_step p h f inside rest r =
      subst (λ (x : List Text). Cut tape p e (accepted_lines points size h f x)) (sym opened)
      (go (eqb (alarm_with points size h f (judged (text_at tape p).bytes)) 0) (ends_with (judged (text_at tape p).bytes).head (judged (text_at tape p).bytes).ends)
      (ap (λ (x : List Text). (read_lines_with points size first (length tape) h f x).read) (sym opened) ∙ r))
    where
      k : History
      k = noted h (judged (text_at tape p).bytes).head

      g : Filled
      g = filed f (judged (text_at tape p).bytes).head p

      opened : lines tape p ≡ text_at tape p ∷ lines tape (line_at tape p).after
      opened = lines_more tape p inside

      bounds : LineIn (line_at tape p) p (length tape)
      bounds = line_in_lem tape p (omega arith)

      go : (u v : Bool)
          → (cond {A = Readings} u (cond v (record { read = Whole first (line_at tape p).after; row = g.row }) (read_lines_with points size first (length tape) k g (lines tape (line_at tape p).after))) (record { read = Alarm (alarm_with points size h f (judged (text_at tape p).bytes)) p; row = f.row })).read ≡ Whole f₀ e
          → Cut tape p e (cond u (cond v (text_at tape p ∷ []) (text_at tape p ∷ accepted_lines points size k g (lines tape (line_at tape p).after))) [])
      go false v q = absurd (let z : ◌≡◌ {A = ℕ} 0 1 = cc in omega arith)
      go true true q =
          let a : (line_at tape p).after ≡ e = cc in
          let b : p < (line_at tape p).after = bounds.onward inside in
          let w : (line_at tape p).after ≤ length tape = bounds.ends in
          record {
            from = omega arith;
            to = omega arith;
            same =
                lines_cut tape p e inside (omega arith) (omega arith)
                ∙ ap (λ (x : List Text). text_at tape p ∷ x) (lines_end (take e tape) (line_at tape p).after (omega (arith, length-take-le e tape (omega arith))));
          }
      go true false q =
          let i : CutFrom (line_at tape p).after k g = rest k g q in
          let b : p < (line_at tape p).after = bounds.onward inside in
          record {
            from = omega (arith, i.from);
            to = i.to;
            same = lines_cut tape p e inside i.from i.to ∙ ap (λ (x : List Text). text_at tape p ∷ x) i.same;
          }

  cut_lines : (k : ℕ) (p : ℕ) (h : History) (f : Filled) → p ≤ length tape → length tape - p ≤ k → Ends p h f → CutFrom p h f
  cut_lines zero p h f l m r = cut_end p h f l (omega arith) r
  cut_lines (suc k) p h f l m r = go (ltb p (length tape)) refl (λ a b h' f' q. cut_lines k (line_at tape p).after h' f' a b q)
    where
      go : (t : Bool) → ltb p (length tape) ≡ t
          → ((line_at tape p).after ≤ length tape → length tape - (line_at tape p).after ≤ k → (h' : History) (f' : Filled) → Ends (line_at tape p).after h' f' → CutFrom (line_at tape p).after h' f')
          → CutFrom p h f
      go true q rest =
          let i : p < length tape = ltb-true p (length tape) q in
          let b : LineIn (line_at tape p) p (length tape) = line_in_lem tape p l in
          let o : p < (line_at tape p).after = b.onward i in
          cut_step p h f i (rest b.ends (omega arith)) r
      go false q rest = cut_end p h f l (ltb-false p (length tape) q) r

-- ---- the places of the lines of a tape that is not too long
near_up : (k : ℕ) (s : List ℕ) (p : ℕ) → length s ≤ longest_tape → Near (lines_up k s p)
unfolding lines_up
near_up zero s p l = tt
near_up (suc k) s p l = go (ltb p (length s)) refl (near_up k s (line_at s p).after l)
  where
    go : (t : Bool) → ltb p (length s) ≡ t → Near (lines_up k s (line_at s p).after) → Near (cond t (text_at s p ∷ lines_up k s (line_at s p).after) [])
    go true q rest = (omega (arith, ltb-true p (length s) q), rest)
    go false q rest = tt

near : (s : List ℕ) (p : ℕ) → length s ≤ longest_tape → Near (lines s p)
unfolding lines
near s p l = near_up (length s) s p l

-- ---- THE LAWS, of a tape that was read without alarm
finds_lines : (points : Bool) (size : ℕ) (tape : List ℕ) (first f e : ℕ) → length tape ≤ longest_tape → first < length tape
    → (read_lines_with points size first (length tape) nothing_read nothing_filled (lines tape first)).read ≡ Whole f e
    → Finds (read_lines_with points size first (length tape) nothing_read nothing_filled (lines tape first)).row (take e tape) first
finds_lines points size tape first f e short inside r =
    subst (λ (x : List ℕ). Finds x (take e tape) first) (sym row) (table_finds (take e tape) first (omega (arith, cut.from, length-take-le e tape cut.to)) fresh)
  where
    cut : Cut tape first e (accepted_lines points size nothing_read nothing_filled (lines tape first))
    cut = cut_lines points size tape first f e (length tape) first nothing_read nothing_filled (omega arith) (omega arith) r

    row : (read_lines_with points size first (length tape) nothing_read nothing_filled (lines tape first)).row ≡ tabled no_program [] (lines_of (lines (take e tape) first))
    row = read_row points size first (length tape) (lines tape first) nothing_read nothing_filled ∙ ap (λ (x : List Text). tabled no_program [] (lines_of x)) (sym cut.same)

    fresh : Accepted no_program [] (lines_of (lines (take e tape) first))
    fresh = subst (λ (x : List Text). Accepted no_program [] (lines_of x)) (sym cut.same) (accepted points size (lines tape first) nothing_read nothing_filled sound_start (near tape first short))

-- the first line is that which is told with the end of reading
read_first : (points : Bool) (size first end : ℕ) (ts : List Text) (h : History) (f : Filled) (f₀ e : ℕ) → (read_lines_with points size first end h f ts).read ≡ Whole f₀ e → first ≡ f₀
unfolding read_lines_with
read_first points size first end [] h f f₀ e r = cc
read_first points size first end (t ∷ ts) h f f₀ e r =
    go (eqb (alarm_with points size h f (judged t.bytes)) 0) (ends_with (judged t.bytes).head (judged t.bytes).ends) (read_lines_with points size first end k g ts)
    (λ q. read_first points size first end ts k g f₀ e q) r
  where
    k : History
    k = noted h (judged t.bytes).head

    g : Filled
    g = filed f (judged t.bytes).head t.place

    go : (u v : Bool) (rest : Readings) → (rest.read ≡ Whole f₀ e → first ≡ f₀)
        → (cond {A = Readings} u (cond v (record { read = Whole first t.after; row = g.row }) rest) (record { read = Alarm (alarm_with points size h f (judged t.bytes)) t.place; row = f.row })).read ≡ Whole f₀ e
        → first ≡ f₀
    go false v rest i q = absurd (let z : ◌≡◌ {A = ℕ} 0 1 = cc in omega arith)
    go true true rest i q = cc
    go true false rest i q = i q

module _ (points : Bool) (size : ℕ) (tape : List ℕ) where
  -- a tape by whether it has a line
  abbrev by : Bool → Readings
  by t =
      cond t (read_lines_with points size (seek_from opens_tape tape 0) (length tape) nothing_read nothing_filled (lines tape (seek_from opens_tape tape 0)))
      (record { read = Alarm alarms.no_program 0; row = [] })

  -- "each finding equals the first layout's walk along the tape"
  pub finds : (first end : ℕ) → (read_with points size tape).read ≡ Whole first end → length tape ≤ longest_tape → Finds (read_with points size tape).row (take end tape) first
  unfolding read_with
  finds first end r short = go (ltb (seek_from opens_tape tape 0) (length tape)) refl r
    where
      go : (t : Bool) → ltb (seek_from opens_tape tape 0) (length tape) ≡ t → (by t).read ≡ Whole first end → Finds (by t).row (take end tape) first
      go true l q =
          let n : ℕ = seek_from opens_tape tape 0 in
          subst (λ (f : ℕ). Finds (read_lines_with points size n (length tape) nothing_read nothing_filled (lines tape n)).row (take end tape) f)
          (read_first points size n (length tape) (lines tape n) nothing_read nothing_filled first end q)
          (finds_lines points size tape n first end short (ltb-true n (length tape) l) q)
      go false l q = absurd (let z : ◌≡◌ {A = ℕ} 0 1 = cc in omega arith)

  pub ends_on : (first end : ℕ) → (read_with points size tape).read ≡ Whole first end → end ≤ length tape
  unfolding read_with
  ends_on first end r = go (ltb (seek_from opens_tape tape 0) (length tape)) refl r
    where
      go : (t : Bool) → ltb (seek_from opens_tape tape 0) (length tape) ≡ t → (by t).read ≡ Whole first end → end ≤ length tape
      go true l q =
          let n : ℕ = seek_from opens_tape tape 0 in
          let i : n < length tape = ltb-true n (length tape) l in
          (cut_lines points size tape n first end (length tape) n nothing_read nothing_filled (omega arith) (omega arith) q).to
      go false l q = absurd (let z : ◌≡◌ {A = ℕ} 0 1 = cc in omega arith)

  -- after any answer the row is that of the lines that were accepted, and they were accepted one after the other
  pub row_accepted : (read_with points size tape).row ≡ tabled no_program [] (lines_of (accepted_of points size tape))
  unfolding read_with accepted_of tabled
  row_accepted = go (ltb (seek_from opens_tape tape 0) (length tape))
    where
      go : (t : Bool) → (by t).row ≡ tabled no_program [] (lines_of (cond t (accepted_lines points size nothing_read nothing_filled (lines tape (seek_from opens_tape tape 0))) []))
      go true = read_row points size (seek_from opens_tape tape 0) (length tape) (lines tape (seek_from opens_tape tape 0)) nothing_read nothing_filled
      go false = refl

  pub all_accepted : length tape ≤ longest_tape → Accepted no_program [] (lines_of (accepted_of points size tape))
  unfolding accepted_of
  all_accepted short = go (ltb (seek_from opens_tape tape 0) (length tape))
    where
      go : (t : Bool) → Accepted no_program [] (lines_of (cond t (accepted_lines points size nothing_read nothing_filled (lines tape (seek_from opens_tape tape 0))) []))
      go true = accepted points size (lines tape (seek_from opens_tape tape 0)) nothing_read nothing_filled sound_start (near tape (seek_from opens_tape tape 0) short)
      go false = tt
