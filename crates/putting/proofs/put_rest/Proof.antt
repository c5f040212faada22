-- `putting::put_rest` meets its contract. The loop's invariant: some records are written, and what is due has the others. The measure is how many are left.
use borrow.Author.Rules.{rules}
use borrow.Author.Tests.{not-false}
use mathlib.Core.Path.{◌≡◌, refl, sym, ap, subst, ◌∙◌}
use mathlib.Core.Bool.{Bool, true, false, not, ◌&&◌}
use mathlib.Core.List.{[], ◌∷◌}
use Prim.Native.Nat.{◌+◌, ◌-◌, ◌≤◌}
use native.Mathlib.Omega.{arith}
use lib.ListN.{length}
use borrow.Rule.Slice.PartMut.{put_mid}
use Rattle.octets.proofs.Laying.{lent}
use Rattle.moves.specs.declared.Record.{Record}
use Rattle.moves.specs.Form.{record_size, record_bytes, listed}
use Rattle.moves.specs.Written.{Written}
use Rattle.moves.proofs.Written.{none_written, one_written, some_written, all_written, written_room, some_room, written_length, rest_less}
use Rattle.stages.specs.Cursor.{rest_of, behind_deed, Sound}
use Rattle.handing.proofs.Cursors.{rest_none}
use Rattle.putting.specs.Cycles.{has_own_loop, cycle_row}
use Rattle.putting.proofs.Cycles.{cycle_first, stop_behind, none_behind}
use Rattle.putting.proofs.put_rest.Statement.{statement}
use Rattle.putting.proofs.put_rest.Tie as tie

abbrev invariant_loop : tie.invariant-loop-handed
invariant_loop buf₀ first origin plan due₀ at₀ buf due at = Sound plan due × Written origin buf₀ first (rest_of plan due₀) buf (rest_of plan due) at

abbrev decreases_loop : tie.decreases-loop-handed
decreases_loop buf₀ first origin plan due₀ at₀ buf due at = length (rest_of plan due)

-- ---- the two tests of the loop
left_first : (a b : Bool) → (not a && not b) ≡ true → a ≡ false
left_first true b e = sym e
left_first false b e = refl

left_one : (a b : Bool) → (not a && not b) ≡ false → b ≡ false → a ≡ true
left_one true b e h = refl
left_one false b e h = sym h ∙ not-false b e

abbrev loop_of : tie.After-next-handed invariant_loop decreases_loop → tie.At-loop-handed invariant_loop decreases_loop
loop_of n = n.before.before.before.before

-- the next record has room
has_room : (n : tie.After-next-handed invariant_loop decreases_loop) → (loop_of n).loop-handed.at + record_size ≤ length (loop_of n).loop-handed.buf
has_room n =
    let l = loop_of n in
    written_room l.requires.1 l.loop-handed.invariant.1 n.next-handed.result.«record» _ n.next-handed.ensures.first

-- ---- a cycle is due that has a loop of its own
abbrev loop_by : tie.Then-has_own_loop invariant_loop decreases_loop → tie.At-loop-handed invariant_loop decreases_loop
loop_by t = t.before.before.before.before.before

own_loop : (t : tie.Then-has_own_loop invariant_loop decreases_loop) → has_own_loop (loop_by t).loop-handed.due ≡ true
own_loop t = sym t.has_own_loop-2.ensures ∙ t.if-has_own_loop.true

-- it is written
abbrev told_by_lem : tie.After-put_cycle-behind invariant_loop decreases_loop → tie.Then-has_own_loop invariant_loop decreases_loop
told_by_lem q = q.before.before

cycle_written : (q : tie.After-put_cycle-behind invariant_loop decreases_loop)
    → (let l = loop_by (told_by_lem q) in let a = l.args in
    Written a.origin a.buf.now a.first (rest_of a.c.plan a.c.due) q.put_cycle-behind.new.buf (behind_deed a.c.plan) q.put_cycle-behind.result)
cycle_written q =
    let t = told_by_lem q in
    let l = loop_by t in
    subst (Written _ _ _ _ _ _) (sym q.put_cycle-behind.ensures.0)
    (some_written l.requires.1 l.loop-handed.invariant.1 (cycle_row l.loop-handed.due) _ (cycle_first _ l.loop-handed.due (own_loop t)) q.put_cycle-behind.ensures.1)

-- and M00 or M30 has room behind it
abbrev cycle_of : tie.After-single-stop invariant_loop decreases_loop → tie.After-put_cycle-behind invariant_loop decreases_loop
cycle_of k = k.before.before.before.before

stop_room : (k : tie.After-single-stop invariant_loop decreases_loop) → (cycle_of k).put_cycle-behind.result + record_size ≤ length (cycle_of k).put_cycle-behind.new.buf
stop_room k =
    let q = cycle_of k in
    let s = (loop_by (told_by_lem q)).before.before.before in
    written_room s.requires.1 (cycle_written q) _ _ (stop_behind s.args.c.plan k.if-plan.true)

loop_holds : tie.Need-loop-handed-init invariant_loop decreases_loop
loop_holds c = (c.requires.0, none_written _ _ _ _)

next_requires : tie.Need-next-handed-requires invariant_loop decreases_loop
next_requires c κs =
    let o = c in
    (o.loop-handed.invariant.0, sym o.is_over.ensures ∙ left_first o.is_over.result c.has_own_loop.result c.loop-handed-test.true)

sub_put_record : tie.Need-slice_bounds-put_record-count invariant_loop decreases_loop
sub_put_record c = omega (arith, has_room c.before)

part_put_record_start : tie.Need-slice_bounds-put_record-start invariant_loop decreases_loop
part_put_record_start c = let h = has_room c.before in search rules

part_put_record_end : tie.Need-slice_bounds-put_record-end invariant_loop decreases_loop
part_put_record_end c = let h = has_room c.before in search rules

put_record_requires : tie.Need-put_record-requires invariant_loop decreases_loop
put_record_requires c κs = let h = has_room c.before.before in search rules

abbrev next_of : tie.After-slice_known-in-loop-handed-1 invariant_loop decreases_loop → tie.After-next-handed invariant_loop decreases_loop
next_of c = c.before.before.before.before.before

add_at : tie.Need-overflow_add-at invariant_loop decreases_loop
add_at c =
    let n = next_of c in
    let l = loop_of n in
    omega (arith, has_room n, written_length l.requires.1 l.loop-handed.invariant.1)

loop_less : tie.Need-loop-handed-smaller invariant_loop decreases_loop
loop_less c =
    let n = next_of c in
    let l = loop_of n in
    rest_less l.requires.1 l.loop-handed.invariant.1 n.next-handed.result.«record» _ n.next-handed.ensures.first

loop_again : tie.Need-loop-handed-preserved invariant_loop decreases_loop
loop_again c =
    let p = c in
    let n = next_of c in
    let l = loop_of n in
    let r = n.next-handed.result.«record» in (
      n.next-handed.ensures.sound,
      one_written l.requires.1 l.loop-handed.invariant.1 r _ n.next-handed.ensures.first
          (lent l.loop-handed.buf l.loop-handed.at (record_bytes (listed l.args.origin r)) p.put_record.new.part p.put_record.ensures),
    )

put_cycle_requires : tie.Need-put_cycle-behind-requires invariant_loop decreases_loop
put_cycle_requires c κs =
    let t = c in
    let l = loop_by t.before in
    let e = own_loop t.before in (
      l.loop-handed.invariant.0.due,
      e,
      some_room l.requires.1 l.loop-handed.invariant.1 (cycle_row l.loop-handed.due) _ (cycle_first _ l.loop-handed.due e),
    )

sub_put_record_2 : tie.Need-slice_bounds-put_record-count-then-plan invariant_loop decreases_loop
sub_put_record_2 c = omega (arith, stop_room c)

part_put_record_start_2 : tie.Need-slice_bounds-put_record-start-then-plan invariant_loop decreases_loop
part_put_record_start_2 c = let h = stop_room c in search rules

part_put_record_end_2 : tie.Need-slice_bounds-put_record-end-then-plan invariant_loop decreases_loop
part_put_record_end_2 c = let h = stop_room c in search rules

put_record_requires_2 : tie.Need-put_record-requires-then-plan invariant_loop decreases_loop
put_record_requires_2 c κs = let h = stop_room c.before in search rules

-- ---- all is written: with M00 or M30, or nothing, behind the cycle; or with no such cycle
stop_written : (c : tie.After-slice_known-then-plan-1 invariant_loop decreases_loop)
    → (let p = c in let q = cycle_of p.before.before.before.before in let a = (loop_by (told_by_lem q)).args in let at = q.put_cycle-behind.result in
    Written a.origin a.buf.now a.first (rest_of a.c.plan a.c.due) (put_mid at (length q.put_cycle-behind.new.buf - at) q.put_cycle-behind.new.buf p.put_record-then-plan.new.part) [] (at + record_size))
stop_written c =
    let p = c in
    let k = p in
    let q = cycle_of k.before.before.before.before in
    let s = (loop_by (told_by_lem q)).before.before.before in
    let r = k.single-stop.result in
    one_written s.requires.1 (cycle_written q) r [] (stop_behind s.args.c.plan k.if-plan.true ∙ ap (λ (x : Record). x ∷ []) (sym k.single-stop.ensures))
    (lent q.put_cycle-behind.new.buf q.put_cycle-behind.result (record_bytes (listed s.args.origin r)) p.put_record-then-plan.new.part p.put_record-then-plan.ensures)

same_length : tie.Need-shape_of-buf-then-plan invariant_loop decreases_loop
same_length c = written_length (loop_by (told_by_lem (cycle_of c.before.before.before.before))).requires.1 (stop_written c)

returns : tie.Need-returns-then-plan invariant_loop decreases_loop
returns c = all_written (loop_by (told_by_lem (cycle_of c.before.before.before.before))).requires.1 (stop_written c) refl

same_length_2 : tie.Need-shape_of-buf-else-plan invariant_loop decreases_loop
same_length_2 c =
    let q = c in
    written_length (loop_by (told_by_lem q.before.before.before)).requires.1 (cycle_written q.before.before.before)

returns_2 : tie.Need-returns-else-plan invariant_loop decreases_loop
returns_2 c =
    let q = c in
    let s = (loop_by (told_by_lem q.before.before.before)).before.before.before in
    all_written s.requires.1 (cycle_written q.before.before.before) (none_behind s.args.c.plan c.if-plan.false)

same_length_3 : tie.Need-shape_of-buf-else-has_own_loop invariant_loop decreases_loop
same_length_3 c =
    let l = c in
    written_length l.requires.1 l.loop-handed.invariant.1

returns_3 : tie.Need-returns-else-has_own_loop invariant_loop decreases_loop
returns_3 c =
    let h = c in
    let e = h in
    let o = e in
    let l = o in
    let none = left_one o.is_over.result e.has_own_loop.result e.loop-handed-test.false (e.has_own_loop.ensures ∙ sym h.has_own_loop-2.ensures ∙ c.if-has_own_loop.false) in
    all_written l.requires.1 l.loop-handed.invariant.1 (rest_none _ l.loop-handed.due (sym o.is_over.ensures ∙ none))

pub put_rest_spec : {M : Type 1} → statement M
put_rest_spec =
    tie.close
    (tie.spec
    invariant_loop
    decreases_loop
    loop_holds
    (λ c κs. search rules)
    (λ c κs. search rules)
    next_requires
    sub_put_record
    part_put_record_start
    part_put_record_end
    put_record_requires
    add_at
    loop_less
    loop_again
    (λ c κs. search rules)
    put_cycle_requires
    (λ c κs. search rules)
    sub_put_record_2
    part_put_record_start_2
    part_put_record_end_2
    put_record_requires_2
    same_length
    returns
    same_length_2
    returns_2
    same_length_3
    returns_3)
