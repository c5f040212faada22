-- `block::read_rest` meets its contract.
use borrow.Author.Rules.{rules}
use native.Mathlib.Omega.{arith}
use mathlib.Core.Path.{◌≡◌, sym, ap, ◌∙◌, subst}
use mathlib.Core.Bool.{true}
use Prim.Native.Nat.{◌+◌, ◌-◌, ◌≤◌, ◌<◌}
use lib.ListN.{length}
use mir.Syntax.{w32}
use mir.Val.{to_z, of_z}
use Rattle.addresses.specs.declared.NextWord.{NextWord}
use Rattle.addresses.specs.declared.NextWord.TheVariants as next
use Rattle.addresses.specs.Words.{words_from, NextIn}
use Rattle.addresses.proofs.Within.{NextWithin, word_within}
use Rattle.block.specs.declared.Block.{Block}
use Rattle.block.specs.declared.Slot.TheVariants.{Late, Unknown}
use Rattle.block.specs.Slots.{slots}
use Rattle.block.specs.Words.{SlotIn, no_words, put_word, gather}
use Rattle.block.proofs.Lines.{none, put_words, put_by, stored, noted, rest_fault, rest_end, rest_foreign, rest_word}
use Rattle.block.proofs.read_rest.Statement.{statement}
use Rattle.block.proofs.read_rest.Tie as tie

abbrev invariant_loop : tie.invariant-loop-b
invariant_loop line from b₀ i₀ b i = (i ≤ length line) × (b.words ≤ i) × (gather no_words (words_from line from) ≡ gather b (words_from line i))

abbrev decreases_loop : tie.decreases-loop-b
decreases_loop line from b₀ i₀ b i = length line - i

loop_holds : tie.Need-loop-b-init invariant_loop decreases_loop
loop_holds c =
    let s = c in
    (s.requires.0, subst (λ (b : Block). b.words ≤ s.args.from) (sym c.no_words-b.ensures) none, ap (λ (b : Block). gather b (words_from s.args.line.now s.args.from)) (sym c.no_words-b.ensures))

next_word_requires : tie.Need-next_word-next-requires invariant_loop decreases_loop
next_word_requires c κs = c.loop-b.invariant.0

returns : tie.Need-returns-in-Fault invariant_loop decreases_loop
returns c =
    let n = c in
    let l = n in
    let s = l in
    c.faulty_rest.ensures
    ∙ sym (l.loop-b.invariant.2 ∙ rest_fault s.args.line.now l.loop-b.i l.loop-b.invariant.0 l.loop-b.b (sym n.next_word-next.ensures.0 ∙ c.in-Fault.is))

returns_2 : tie.Need-returns-in-End invariant_loop decreases_loop
returns_2 c =
    let n = c in
    let l = n in
    let s = l in
    sym (l.loop-b.invariant.2 ∙ rest_end s.args.line.now l.loop-b.i l.loop-b.invariant.0 l.loop-b.b (sym n.next_word-next.ensures.0 ∙ c.in-End.is))

returns_3 : tie.Need-returns-then-is_program_address invariant_loop decreases_loop
returns_3 c =
    let x = c in
    let n = x in
    let l = n in
    let s = l in
    c.faulty_rest-then-is_program_address.ensures
    ∙ sym (l.loop-b.invariant.2 ∙ rest_foreign s.args.line.now l.loop-b.i l.loop-b.invariant.0 l.loop-b.b (sym n.next_word-next.ensures.0 ∙ x.in-Word.is)
    (sym c.is_program_address.ensures ∙ c.if-is_program_address.true))

-- a word that was read ends further on, within the line, and has an index of one digit
module _ (x : tie.In-Word invariant_loop decreases_loop) where
  place : NextIn (next.Word x.in-Word.w x.in-Word.end) x.loop-b.i (length x.args.line.now)
  place =
      let n = x in
      subst (λ (t : NextWord). NextIn t n.loop-b.i (length n.args.line.now)) x.in-Word.is n.next_word-next.ensures.1

  index : x.in-Word.w.index < 10
  index =
      let n = x in
      (subst NextWithin (sym n.next_word-next.ensures.0 ∙ x.in-Word.is) (word_within n.args.line.now n.loop-b.i)).index

-- the word's number, as the machine reads it back from its bits
same_value : (c : tie.After-struct_told-1 invariant_loop decreases_loop) →
    let v = c.in-Word.w.value in
    to_z w32 (of_z w32 v) ≡ v
same_value c = search rules

slot_of_requires : tie.Need-slot_of-slot-requires invariant_loop decreases_loop
slot_of_requires c κs = index c.before.before

add_n : tie.Need-overflow_add-n invariant_loop decreases_loop
add_n c =
    let l = c in
    let h : length l.args.line.now ≤ 160 = l.requires.1 in
    let k : l.loop-b.b.words ≤ l.loop-b.i = l.loop-b.invariant.1 in
    let m : l.loop-b.i ≤ length l.args.line.now = l.loop-b.invariant.0 in
    omega arith

-- the slot is one of the array's
slot_in : (c : tie.In-At invariant_loop decreases_loop) → c.in-At.k < slots
slot_in c = subst SlotIn c.in-At.is c.slot_of-slot.ensures.1

mul_value : tie.Need-offset_bounds-b-k invariant_loop decreases_loop
mul_value c = omega (arith, slot_in c)

element_set_from_value : tie.Need-bounds-b-k invariant_loop decreases_loop
element_set_from_value c = slot_in c

element_write_b : tie.Need-bounds-b-k-in-At invariant_loop decreases_loop
element_write_b c = slot_in c

-- the word is in the block, and the words behind it are left
module _ (e : tie.After-lacks_point-lacks invariant_loop decreases_loop) where
  abbrev word_in : tie.In-Word invariant_loop decreases_loop
  word_in = e.before.before.before.before.before.before

  less :
      let l = word_in in
      length l.args.line.now - word_in.in-Word.end < length l.args.line.now - l.loop-b.i
  less = let p = place word_in in omega arith

  again : {b : Block} →
      let l = word_in in
      let a = l.args in
      b ≡ put_word l.loop-b.b word_in.in-Word.w → invariant_loop a.line.now a.from b a.from b word_in.in-Word.end
  again {b} h =
      let n = word_in in
      let l = n in
      let s = l in
      let p = place word_in in
      let k : b.words ≡ l.loop-b.b.words + 1 = ap (λ (x : Block). x.words) h ∙ put_words l.loop-b.b word_in.in-Word.w in (
        p.1,
        omega arith,
        l.loop-b.invariant.2 ∙ rest_word s.args.line.now l.loop-b.i l.loop-b.invariant.0 l.loop-b.b (sym n.next_word-next.ensures.0 ∙ word_in.in-Word.is)
            (sym e.is_program_address.ensures ∙ e.if-is_program_address.false) ∙ ap (λ (x : Block). gather x (words_from s.args.line.now word_in.in-Word.end)) (sym h),
      )

loop_less : tie.Need-loop-b-smaller-in-At invariant_loop decreases_loop
loop_less c = less c.before

loop_again : tie.Need-loop-b-preserved-in-At invariant_loop decreases_loop
loop_again c =
    let e = c in
    let w = (word_in e.before).in-Word.w in
    let b = (word_in e.before).loop-b.b in
    again e.before (stored b w c.in-At.k (same_value e.before.before.before) e.is_end-ends.ensures e.lacks_point-lacks.ensures ∙ put_by b w (sym e.slot_of-slot.ensures.0 ∙ c.in-At.is))

loop_less_2 : tie.Need-loop-b-smaller-in-Late invariant_loop decreases_loop
loop_less_2 c = less c.before

loop_again_2 : tie.Need-loop-b-preserved-in-Late invariant_loop decreases_loop
loop_again_2 c =
    let e = c in
    let w = (word_in e.before).in-Word.w in
    let b = (word_in e.before).loop-b.b in
    again e.before (noted b w true b.unknown e.is_end-ends.ensures e.lacks_point-lacks.ensures ∙ put_by b w {k = Late} (sym e.slot_of-slot.ensures.0 ∙ c.in-Late.is))

loop_less_3 : tie.Need-loop-b-smaller invariant_loop decreases_loop
loop_less_3 c = less c.before

loop_again_3 : tie.Need-loop-b-preserved invariant_loop decreases_loop
loop_again_3 c =
    let e = c in
    let w = (word_in e.before).in-Word.w in
    let b = (word_in e.before).loop-b.b in
    again e.before (noted b w b.late true e.is_end-ends.ensures e.lacks_point-lacks.ensures ∙ put_by b w {k = Unknown} (sym e.slot_of-slot.ensures.0 ∙ c.in-Unknown.is))

pub read_rest_spec : {M : Type 1} → statement M
read_rest_spec =
    tie.close
    (tie.spec
    invariant_loop
    decreases_loop
    (λ c κs. search rules)
    loop_holds
    next_word_requires
    (λ c. search rules)
    (λ c κs. search rules)
    returns
    (λ c. search rules)
    returns_2
    (λ c. search rules)
    (λ c κs. search rules)
    (λ c κs. search rules)
    returns_3
    slot_of_requires
    (λ c κs. search rules)
    (λ c κs. search rules)
    add_n
    (λ c. search rules)
    mul_value
    element_set_from_value
    element_write_b
    loop_less
    loop_again
    (λ c. search rules)
    loop_less_2
    loop_again_2
    (λ c. search rules)
    loop_less_3
    loop_again_3)
