-- `scanning::read_lines` meets its contract. The invariant is `Going`: the table of places holds what was read, and reading on from here gives the whole.
use borrow.Author.Rules.{rules}
use native.Mathlib.Omega.{arith}
use mathlib.Core.Path.{◌≡◌, sym, ap, ◌∙◌, subst}
use mathlib.Core.Bool.{Bool, true, false, cond}
use mathlib.Core.List.{List}
use Prim.Native.Nat.{ℕ, suc, ◌-◌, ◌<◌, ◌≤◌}
use lib.ListN.{length}
use Rattle.alarms.specs.Numbers.{word_rules, places_too_short}
use Rattle.settings.specs.Wrong.{highest_program}
use Rattle.places.specs.Places.{sixteen_bits, entry_of, highest_slot}
use Rattle.tape.specs.Lines.{lines}
use Rattle.tape.specs.declared.line.Line.{Line}
use Rattle.showing.specs.declared.Judged.{Judged}
use Rattle.block.specs.declared.Head.{Head}
use Rattle.block.specs.declared.Head.TheVariants.{Blank, ProgramLine, BlockLine, Other}
use Rattle.block.proofs.Heads.{HeadIn}
use Rattle.showing.proofs.Heads.{judged_in}
use Rattle.reading.specs.declared.Read.TheVariants.{Alarm}
use Rattle.reading.specs.Reading.{head_alarm, noted, ends_with}
use Rattle.reading.specs.Filling.{filed, room_alarm, told, read_lines_with, places_behind}
use Rattle.reading.proofs.Going.{Going, whole, starts, row_ascends, size_is, count_in_lem, answered, at_end, refused_itself, refused_pointless, refused, refused_room, ended, onward, program_above, program_flag, program_repeated, program_new, block_mark, block_repeated, block_new, program_none, program_room, block_none, block_room, size_more, past_blank, past_program, past_block, last_block, blank_none, blank_room, other_start, blank_on, program_on, block_ends}
use Rattle.scanning.proofs.read_lines.Statement.{statement}
use Rattle.scanning.proofs.read_lines.Tie as tie

abbrev invariant_loop : tie.invariant-loop-p
invariant_loop tape first points places₀ present₀ count₀ p₀ places present count p = Going points tape first places₀ places present count p

abbrev decreases_loop : tie.decreases-loop-p
decreases_loop tape first points places₀ present₀ count₀ p₀ places present count p = length tape - p

-- ---- a line that was judged, and shows neither 7, 5 nor 21
module _ (e : tie.Else-points-judged invariant_loop decreases_loop) where
  abbrev at : tie.At-loop-p invariant_loop decreases_loop
  at = e.before.before.before.before.before.before.before

  abbrev points : Bool
  points = at.args.points

  abbrev tape : List ℕ
  tape = at.args.tape.now

  abbrev first : ℕ
  first = at.args.first

  abbrev places₀ : List ℕ
  places₀ = at.args.places.now

  abbrev line : Line
  line = e.line_at-line.result

  abbrev judgement : Judged
  judgement = e.judge_line-judged.result

  abbrev g : Going points tape first places₀ at.loop-p.places at.loop-p.present at.loop-p.count at.loop-p.p
  g = at.loop-p.invariant

  abbrev inside : at.loop-p.p < length tape
  inside = e.if-p-tape.false

  further : at.loop-p.p < line.after
  further = e.line_at-line.ensures.1.onward inside

  within : line.after ≤ length tape
  within = e.line_at-line.ensures.1.ends

  near : at.loop-p.p < sixteen_bits
  near = omega (arith, inside, at.requires.1)

  -- what an alarm of this line answers
  abbrev Answers : ℕ → Type 0
  Answers n =
      (record { read = Alarm n at.loop-p.p; count = at.loop-p.count } ≡ told (whole points tape first (length places₀)))
      × (at.loop-p.places ≡ places_behind (whole points tape first (length places₀)).row places₀)

  refused_as : (head : Head) → judgement.head ≡ head → (n : ℕ) → head_alarm g.history head judgement.broken ≡ suc n → Answers (suc n)
  refused_as head is n a =
      answered g (Alarm (suc n) at.loop-p.p)
      (refused g inside line e.line_at-line.ensures.0 judgement e.judge_line-judged.ensures e.if-alarm-ne0.false e.if-points-judged.false head is n a)

  full_as : (head : Head) → judgement.head ≡ head → head_alarm g.history head judgement.broken ≡ 0 → room_alarm (length places₀) g.filled.row head ≡ places_too_short → Answers places_too_short
  full_as head is a r =
      answered g (Alarm places_too_short at.loop-p.p)
      (refused_room g inside line e.line_at-line.ensures.0 judgement e.judge_line-judged.ensures e.if-alarm-ne0.false e.if-points-judged.false head is a r)

  onward_as : (head : Head) → judgement.head ≡ head → head_alarm g.history head judgement.broken ≡ 0 → room_alarm (length places₀) g.filled.row head ≡ 0
      → ends_with head judgement.ends ≡ false
      → whole points tape first (length places₀)
      ≡ read_lines_with points (length places₀) first (length tape) (noted g.history head) (filed g.filled head at.loop-p.p) (lines tape line.after)
  onward_as head is a r f =
      onward g inside line e.line_at-line.ensures.0 judgement e.judge_line-judged.ensures e.if-alarm-ne0.false e.if-points-judged.false head is a r f

loop_holds : tie.Need-loop-p-init invariant_loop decreases_loop
loop_holds c = let a = c.args in starts a.points a.tape.now a.first a.places.now (omega arith)

same_length : tie.Need-shape_of-places-then-p-tape invariant_loop decreases_loop
same_length c = size_is c.loop-p.invariant

returns : tie.Need-returns-then-p-tape invariant_loop decreases_loop
returns c = answered c.loop-p.invariant _ (at_end c.loop-p.invariant c.if-p-tape.true)

line_at_requires : tie.Need-line_at-line-requires invariant_loop decreases_loop
line_at_requires c κs = c.loop-p.invariant.here

sub_judge_line : tie.Need-slice_bounds-judge_line-count invariant_loop decreases_loop
sub_judge_line c = c.line_at-line.ensures.1.begins

part_judge_line_start : tie.Need-slice_bounds-judge_line-start invariant_loop decreases_loop
part_judge_line_start c = c.line_at-line.ensures.1.begins

part_judge_line_end : tie.Need-slice_bounds-judge_line-end invariant_loop decreases_loop
part_judge_line_end c = c.line_at-line.ensures.1.text

same_length_2 : tie.Need-shape_of-places-then-alarm-ne0 invariant_loop decreases_loop
same_length_2 c = size_is c.loop-p.invariant

returns_2 : tie.Need-returns-then-alarm-ne0 invariant_loop decreases_loop
returns_2 c =
    let k = c in
    let m = k in
    answered m.loop-p.invariant _
    (refused_itself m.loop-p.invariant m.if-p-tape.false m.line_at-line.result m.line_at-line.ensures.0 k.judge_line-judged.result k.judge_line-judged.ensures c.if-alarm-ne0.true)

same_length_3 : tie.Need-shape_of-places-then-points-judged invariant_loop decreases_loop
same_length_3 c = size_is c.loop-p.invariant

returns_3 : tie.Need-returns-then-points-judged invariant_loop decreases_loop
returns_3 c =
    let e = c in
    let k = e in
    let m = k in
    answered m.loop-p.invariant _
    (refused_pointless m.loop-p.invariant m.if-p-tape.false m.line_at-line.result m.line_at-line.ensures.0 k.judge_line-judged.result k.judge_line-judged.ensures e.if-alarm-ne0.false c.if-points-judged.true)

loop_less : tie.Need-loop-p-smaller-in-Blank invariant_loop decreases_loop
loop_less c = let e = c in omega (arith, further e.before, within e.before)

loop_again : tie.Need-loop-p-preserved-in-Blank invariant_loop decreases_loop
loop_again c =
    let e = c in
    past_blank (g e.before) (line e.before).after (further e.before) (within e.before)
    (onward_as e.before Blank c.in-Blank.is (blank_none (g e.before).history (judgement e.before).broken) (blank_room (length (places₀ e.before)) (g e.before).filled.row) (blank_on (judgement e.before).ends))

same_length_4 : tie.Need-shape_of-places-in-Other invariant_loop decreases_loop
same_length_4 c = size_is (g c.before)

returns_4 : tie.Need-returns-in-Other invariant_loop decreases_loop
returns_4 c =
    let e = c in
    let lacks = c.in-Other.field-0 in
    refused_as e.before (Other lacks) c.in-Other.is 5 (other_start (g e.before).history lacks (judgement e.before).broken)

-- ---- a program line
holds_requires : tie.Need-holds-requires invariant_loop decreases_loop
holds_requires c κs = let e = c in (count_in_lem (g e.before.before.before), row_ascends (g e.before.before.before))

module _ (w : tie.After-holds invariant_loop decreases_loop) where
  abbrev e3 : tie.Else-points-judged invariant_loop decreases_loop
  e3 = w.before.before.before.before

  abbrev n3 : ℕ
  n3 = w.in-ProgramLine.n

  -- that the number is not above the highest is read off by `omega`, so that another bound is refused for what it fails
  low3 : n3 ≤ highest_program
  low3 = omega arith

  is3 : (judgement e3).head ≡ ProgramLine n3
  is3 = w.in-ProgramLine.is

  repeated3 : w.holds.result ≡ true → head_alarm (g e3).history (ProgramLine n3) (judgement e3).broken ≡ 6
  repeated3 t =
      program_repeated (g e3) n3 (judgement e3).broken low3 w.key_of-key.result w.key_of-key.ensures w.holds.result w.holds.ensures t

  new3 : w.holds.result ≡ false → head_alarm (g e3).history (ProgramLine n3) (judgement e3).broken ≡ cond (judgement e3).broken word_rules 0
  new3 t =
      program_new (g e3) n3 (judgement e3).broken low3 w.key_of-key.result w.key_of-key.ensures w.holds.result w.holds.ensures t

  by3 : {t : Bool} → w.holds.result ≡ false → (judgement e3).broken ≡ t → head_alarm (g e3).history (ProgramLine n3) (judgement e3).broken ≡ cond t word_rules 0
  by3 f b = new3 f ∙ ap (λ (t : Bool). cond t word_rules 0) b

same_length_6 : tie.Need-shape_of-places-then-holds invariant_loop decreases_loop
same_length_6 c = size_is (g (e3 c.before))

returns_6 : tie.Need-returns-then-holds invariant_loop decreases_loop
returns_6 c = let w = c in refused_as (e3 w.before) (ProgramLine (n3 w.before)) (is3 w.before) 5 (repeated3 w.before c.if-holds.true)

same_length_7 : tie.Need-shape_of-places-then-judged invariant_loop decreases_loop
same_length_7 c = size_is (g (e3 c.before.before))

returns_7 : tie.Need-returns-then-judged invariant_loop decreases_loop
returns_7 c = let w = c in refused_as (e3 w.before.before) (ProgramLine (n3 w.before.before)) (is3 w.before.before) 8 (by3 w.before.before c.if-holds.false c.if-judged.true)

same_length_8 : tie.Need-shape_of-places-then-count-places invariant_loop decreases_loop
same_length_8 c = size_is (g (e3 c.before.before.before))

returns_8 : tie.Need-returns-then-count-places invariant_loop decreases_loop
returns_8 c =
    let w = c in
    full_as (e3 w.before.before.before) (ProgramLine (n3 w.before.before.before)) (is3 w.before.before.before) (by3 w.before.before.before c.if-holds.false c.if-judged.false) (program_none (g (e3 w.before.before.before)) (n3 w.before.before.before) c.if-count-places.true)

entry_of_requires : tie.Need-entry_of-entry-requires invariant_loop decreases_loop
entry_of_requires c κs =
    let w = c in
    (omega (arith, w.key_of-key.ensures, low3 w.before.before.before), near (e3 w.before.before.before))

insert_requires : tie.Need-insert-requires invariant_loop decreases_loop
insert_requires c κs = (c.if-count-places.false, row_ascends (g (e3 c.before.before.before.before.before)))

add_count : tie.Need-overflow_add-count invariant_loop decreases_loop
add_count c =
    let r = c in
    let e = e3 r.before.before.before.before.before.before.before.before in
    omega (arith, (g e).few, near e)

loop_less_2 : tie.Need-loop-p-smaller-in-ProgramLine invariant_loop decreases_loop
loop_less_2 c = let e = e3 c.before.before.before.before.before.before.before.before in omega (arith, further e, within e)

loop_again_2 : tie.Need-loop-p-preserved-in-ProgramLine invariant_loop decreases_loop
loop_again_2 c =
    let i = c in
    let o = i in
    let r = o in
    let w = r in
    let e = e3 w.before.before.before.before.before.before.before.before in
    past_program (g e) (line e).after (further e) (within e) (near e) (n3 w.before.before.before.before.before.before.before.before) i.insert.new.table o.entry_of-entry.result r.if-count-places.false i.insert.ensures
    (omega (arith, low3 w.before.before.before.before.before.before.before.before))
    (program_flag (g e) (n3 w.before.before.before.before.before.before.before.before) (judgement e).broken (low3 w.before.before.before.before.before.before.before.before) w.key_of-key.result w.key_of-key.ensures w.holds.result w.holds.ensures ∙ r.if-holds.false)
    (o.entry_of-entry.ensures ∙ ap (λ (k : ℕ). entry_of k (at e).loop-p.p) w.key_of-key.ensures)
    (onward_as e (ProgramLine (n3 w.before.before.before.before.before.before.before.before)) (is3 w.before.before.before.before.before.before.before.before) (by3 w.before.before.before.before.before.before.before.before r.if-holds.false r.if-judged.false) (program_room (g e) (n3 w.before.before.before.before.before.before.before.before) r.if-count-places.false) (program_on (n3 w.before.before.before.before.before.before.before.before) (judgement e).ends))

-- ---- a block line
-- its number has at most four digits
small : (h : tie.In-BlockLine invariant_loop decreases_loop) → h.in-BlockLine.n < 10000
small h =
    let k = h in
    subst HeadIn h.in-BlockLine.is (subst (λ (j : Judged). HeadIn j.head) (sym k.judge_line-judged.ensures) (judged_in _))

add_slot : tie.Need-overflow_add-slot invariant_loop decreases_loop
add_slot c = omega (arith, small c)

key_of_requires_2 : tie.Need-key_of-own-requires invariant_loop decreases_loop
key_of_requires_2 c κs = omega (arith, small c)

holds_requires_2 : tie.Need-holds-requires-in-BlockLine invariant_loop decreases_loop
holds_requires_2 c κs = let e = c in (count_in_lem (g e.before.before), row_ascends (g e.before.before))

module _ (w : tie.After-holds-in-BlockLine invariant_loop decreases_loop) where
  abbrev h4 : tie.In-BlockLine invariant_loop decreases_loop
  h4 = w.before.before

  abbrev e4 : tie.Else-points-judged invariant_loop decreases_loop
  e4 = h4.before

  abbrev n4 : ℕ
  n4 = h4.in-BlockLine.n

  is4 : (judgement e4).head ≡ BlockLine n4
  is4 = h4.in-BlockLine.is

  low4 : n4 < highest_slot
  low4 = omega (arith, small h4)

  repeated4 : w.holds-in-BlockLine.result ≡ true → head_alarm (g e4).history (BlockLine n4) (judgement e4).broken ≡ 6
  repeated4 t = block_repeated (g e4) n4 (judgement e4).broken low4 w.key_of-own.result w.key_of-own.ensures w.holds-in-BlockLine.result w.holds-in-BlockLine.ensures t

  new4 : w.holds-in-BlockLine.result ≡ false → head_alarm (g e4).history (BlockLine n4) (judgement e4).broken ≡ cond (judgement e4).broken word_rules 0
  new4 t = block_new (g e4) n4 (judgement e4).broken low4 w.key_of-own.result w.key_of-own.ensures w.holds-in-BlockLine.result w.holds-in-BlockLine.ensures t

  by4 : {t : Bool} → w.holds-in-BlockLine.result ≡ false → (judgement e4).broken ≡ t → head_alarm (g e4).history (BlockLine n4) (judgement e4).broken ≡ cond t word_rules 0
  by4 f b = new4 f ∙ ap (λ (t : Bool). cond t word_rules 0) b

same_length_9 : tie.Need-shape_of-places-then-holds-2 invariant_loop decreases_loop
same_length_9 c = size_is (g (e4 c.before))

returns_9 : tie.Need-returns-then-holds-2 invariant_loop decreases_loop
returns_9 c = let w = c in refused_as (e4 w.before) (BlockLine (n4 w.before)) (is4 w.before) 5 (repeated4 w.before c.if-holds-2.true)

same_length_10 : tie.Need-shape_of-places-then-judged-2 invariant_loop decreases_loop
same_length_10 c = size_is (g (e4 c.before.before))

returns_10 : tie.Need-returns-then-judged-2 invariant_loop decreases_loop
returns_10 c = let w = c in refused_as (e4 w.before.before) (BlockLine (n4 w.before.before)) (is4 w.before.before) 8 (by4 w.before.before c.if-holds-2.false c.if-judged-2.true)

same_length_11 : tie.Need-shape_of-places-then-count-places-2 invariant_loop decreases_loop
same_length_11 c = size_is (g (e4 c.before.before.before))

returns_11 : tie.Need-returns-then-count-places-2 invariant_loop decreases_loop
returns_11 c =
    let w = c in
    full_as (e4 w.before.before.before) (BlockLine (n4 w.before.before.before)) (is4 w.before.before.before) (by4 w.before.before.before c.if-holds-2.false c.if-judged-2.false) (block_none (g (e4 w.before.before.before)) (n4 w.before.before.before) c.if-count-places-2.true)

-- the block is accepted
module _ (r : tie.Else-count-places-2 invariant_loop decreases_loop) where
  abbrev w5 : tie.After-holds-in-BlockLine invariant_loop decreases_loop
  w5 = r.before.before.before

  accepted5 : head_alarm (g (e4 w5)).history (BlockLine (n4 w5)) (judgement (e4 w5)).broken ≡ 0
  accepted5 = by4 w5 r.if-holds-2.false r.if-judged-2.false

  room5 : room_alarm (length (places₀ (e4 w5))) (g (e4 w5)).filled.row (BlockLine (n4 w5)) ≡ 0
  room5 = block_room (g (e4 w5)) (n4 w5) r.if-count-places-2.false

entry_of_requires_2 : tie.Need-entry_of-entry-requires-in-BlockLine invariant_loop decreases_loop
entry_of_requires_2 c κs =
    let w = w5 c in
    (omega (arith, w.key_of-own.ensures, small (h4 w), (g (e4 w)).low), near (e4 w))

insert_requires_2 : tie.Need-insert-requires-in-BlockLine invariant_loop decreases_loop
insert_requires_2 c κs = (c.if-count-places-2.false, row_ascends (g (e4 (w5 c.before.before))))

add_count_2 : tie.Need-overflow_add-count-in-BlockLine invariant_loop decreases_loop
add_count_2 c =
    let r = c in
    let e = e4 (w5 r.before.before.before.before.before) in
    omega (arith, (g e).few, near e)

same_length_12 : tie.Need-shape_of-places-then-judged-3 invariant_loop decreases_loop
same_length_12 c =
    let i = c in
    let o = i in
    let r = o in
    size_more (g (e4 (w5 r.before.before.before.before.before.before))) i.insert-in-BlockLine.new.table o.entry_of-entry-in-BlockLine.result r.if-count-places-2.false i.insert-in-BlockLine.ensures

returns_12 : tie.Need-returns-then-judged-3 invariant_loop decreases_loop
returns_12 c =
    let i = c in
    let o = i in
    let r = o in
    let w = w5 r.before.before.before.before.before.before in
    let e = e4 w in
    last_block (g e) (line e).after (further e) (within e) (near e) (n4 w) i.insert-in-BlockLine.new.table o.entry_of-entry-in-BlockLine.result r.if-count-places-2.false i.insert-in-BlockLine.ensures
    (o.entry_of-entry-in-BlockLine.ensures ∙ ap (λ (k : ℕ). entry_of k (at e).loop-p.p) w.key_of-own.ensures)
    (ended (g e) (inside e) (line e) e.line_at-line.ensures.0 (judgement e) e.judge_line-judged.ensures e.if-alarm-ne0.false e.if-points-judged.false
    (BlockLine (n4 w)) (is4 w) (accepted5 r.before.before.before.before.before.before) (room5 r.before.before.before.before.before.before) (block_ends (n4 w) (judgement e).ends ∙ c.if-judged-3.true))

loop_less_3 : tie.Need-loop-p-smaller invariant_loop decreases_loop
loop_less_3 c = let e = e4 (w5 c.before.before.before.before.before.before) in omega (arith, further e, within e)

loop_again_3 : tie.Need-loop-p-preserved invariant_loop decreases_loop
loop_again_3 c =
    let i = c in
    let o = i in
    let r = o in
    let w = w5 r.before.before.before.before.before.before in
    let e = e4 w in
    past_block (g e) (line e).after (further e) (within e) (near e) (n4 w) i.insert-in-BlockLine.new.table o.entry_of-entry-in-BlockLine.result r.if-count-places-2.false i.insert-in-BlockLine.ensures
    (o.entry_of-entry-in-BlockLine.ensures ∙ ap (λ (k : ℕ). entry_of k (at e).loop-p.p) w.key_of-own.ensures)
    (low4 w)
    (block_mark (g e) (n4 w) (judgement e).broken (low4 w) w.key_of-own.result w.key_of-own.ensures w.holds-in-BlockLine.result w.holds-in-BlockLine.ensures ∙ r.if-holds-2.false)
    (onward_as e (BlockLine (n4 w)) (is4 w) (accepted5 r.before.before.before.before.before.before) (room5 r.before.before.before.before.before.before) (block_ends (n4 w) (judgement e).ends ∙ c.if-judged-3.false))

pub read_lines_spec : {M : Type 1} → statement M
read_lines_spec =
    tie.close
    (tie.spec
    invariant_loop
    decreases_loop
    loop_holds
    same_length
    returns
    line_at_requires
    sub_judge_line
    part_judge_line_start
    part_judge_line_end
    (λ c κs. search rules)
    same_length_2
    returns_2
    same_length_3
    returns_3
    (λ c. search rules)
    loop_less
    loop_again
    (λ c. search rules)
    same_length_4
    returns_4
    (λ c. search rules)
    (λ c. size_is c.loop-p.invariant)
    (λ c. refused_as c.before.before (ProgramLine c.in-ProgramLine.n) c.in-ProgramLine.is 5 (program_above c.loop-p.invariant c.in-ProgramLine.n c.judge_line-judged.result.broken (omega arith)))
    (λ c κs. search rules)
    holds_requires
    same_length_6
    returns_6
    same_length_7
    returns_7
    same_length_8
    returns_8
    entry_of_requires
    insert_requires
    add_count
    loop_less_2
    loop_again_2
    (λ c. search rules)
    add_slot
    key_of_requires_2
    holds_requires_2
    same_length_9
    returns_9
    same_length_10
    returns_10
    same_length_11
    returns_11
    entry_of_requires_2
    insert_requires_2
    add_count_2
    same_length_12
    returns_12
    loop_less_3
    loop_again_3)
