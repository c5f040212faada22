-- `plunging::put_plunges` meets its contract. The invariant of both loops: some records are written, and the cursor has the others; a cut comes next, or, of the outer one, nothing. The measure is
-- how many are left.
use borrow.Author.Rules.{rules}
use borrow.Author.Tests.{not-true, not-false}
use mathlib.Core.Path.{◌≡◌, sym, ◌∙◌}
use mathlib.Core.Bool.{true}
use Prim.Native.Nat.{◌+◌, ◌*◌, ◌≤◌}
use native.Mathlib.Omega.{arith}
use lib.ListN.{length}
use Rattle.octets.proofs.Laying.{lent}
use Rattle.moves.specs.Form.{record_size, row_from}
use Rattle.moves.specs.Written.{Written}
use Rattle.moves.proofs.Written.{none_written, some_written, written_on, all_written, written_end, some_room, left_room, written_length, some_less, left_few}
use Rattle.plunges.specs.declared.Stage.TheVariants.{Cut}
use Rattle.plunges.specs.Cursor.{rest_of, before_cut, Sound, cut_row}
use Rattle.plunges.proofs.Cursors.{rest_none, cut_next_is}
use Rattle.plunging.proofs.put_plunges.Statement.{statement}
use Rattle.plunging.proofs.put_plunges.Tie as tie

abbrev invariant_loop2 : tie.invariant-loop-cutting
invariant_loop2 buf₀ first origin left₀ at₀ buf left at = Sound left × (left.stage ≡ Cut) × Written origin buf₀ at₀ (rest_of left₀) buf (rest_of left) at

abbrev decreases_loop2 : tie.decreases-loop-cutting
decreases_loop2 buf₀ first origin left₀ at₀ buf left at = length (rest_of left)

abbrev invariant_loop : tie.invariant-loop-origin
invariant_loop buf₀ first origin left₀ at₀ buf left at = Sound left × (before_cut left ≡ true) × Written origin buf₀ first (rest_of left₀) buf (rest_of left) at

abbrev decreases_loop : tie.decreases-loop-origin
decreases_loop buf₀ first origin left₀ at₀ buf left at = length (rest_of left)

-- ---- the inner loop: where it begins, all that is left has room
abbrev outer : tie.At-loop-cutting invariant_loop2 decreases_loop2 invariant_loop decreases_loop → tie.At-loop-origin invariant_loop2 decreases_loop2 invariant_loop decreases_loop
outer l = l.before.before.before

room_in : (l : tie.At-loop-cutting invariant_loop2 decreases_loop2 invariant_loop decreases_loop) → (outer l).loop-origin.at + record_size * length (rest_of (outer l).loop-origin.left) ≤ length (outer l).loop-origin.buf
room_in l = left_room (outer l).requires.2 (outer l).loop-origin.invariant.2

abbrev inner_of : tie.After-next_cut-cutting invariant_loop2 decreases_loop2 invariant_loop decreases_loop → tie.At-loop-cutting invariant_loop2 decreases_loop2 invariant_loop decreases_loop
inner_of n = n.before.before.before

has_two : (n : tie.After-next_cut-cutting invariant_loop2 decreases_loop2 invariant_loop decreases_loop) → (inner_of n).loop-cutting.at + record_size * 2 ≤ length (inner_of n).loop-cutting.buf
has_two n =
    let l = inner_of n in
    some_room (room_in l) l.loop-cutting.invariant.2 (cut_row n.next_cut-cutting.result) _ n.next_cut-cutting.ensures.first

loop_holds : tie.Need-loop-origin-init invariant_loop2 decreases_loop2 invariant_loop decreases_loop
loop_holds c = let s = c in (s.requires.0, s.requires.1, none_written _ _ _ _)

loop2_holds : tie.Need-loop-cutting-init invariant_loop2 decreases_loop2 invariant_loop decreases_loop
loop2_holds c =
    let l = c in
    (l.loop-origin.invariant.0, cut_next_is l.loop-origin.left l.loop-origin.invariant.1 (sym c.is_over.ensures ∙ c.loop-origin-test.true), none_written _ _ _ _)

next_cut_requires : tie.Need-next_cut-cutting-requires invariant_loop2 decreases_loop2 invariant_loop decreases_loop
next_cut_requires c κs = (c.loop-cutting.invariant.0, sym c.is_before_cut_and_back.ensures ∙ c.loop-cutting-test.true)

sub_put_two : tie.Need-slice_bounds-put_two-count invariant_loop2 decreases_loop2 invariant_loop decreases_loop
sub_put_two c = omega (arith, has_two c.before.before)

part_put_two_start : tie.Need-slice_bounds-put_two-start invariant_loop2 decreases_loop2 invariant_loop decreases_loop
part_put_two_start c = let h = has_two c.before.before in search rules

part_put_two_end : tie.Need-slice_bounds-put_two-end invariant_loop2 decreases_loop2 invariant_loop decreases_loop
part_put_two_end c = let h = has_two c.before.before in search rules

put_two_requires : tie.Need-put_two-requires invariant_loop2 decreases_loop2 invariant_loop decreases_loop
put_two_requires c κs = let h = has_two c.before.before.before in search rules

abbrev cut_of : tie.After-left-1 invariant_loop2 decreases_loop2 invariant_loop decreases_loop → tie.After-next_cut-cutting invariant_loop2 decreases_loop2 invariant_loop decreases_loop
cut_of c = c.before.before.before.before.before.before.before

add_at : tie.Need-overflow_add-at invariant_loop2 decreases_loop2 invariant_loop decreases_loop
add_at c =
    let n = cut_of c in
    let l = inner_of n in
    let o = outer l in
    omega (arith, has_two n, written_length (room_in l) l.loop-cutting.invariant.2, written_length o.requires.2 o.loop-origin.invariant.2)

loop2_less : tie.Need-loop-cutting-smaller invariant_loop2 decreases_loop2 invariant_loop decreases_loop
loop2_less c =
    let n = cut_of c in
    let l = inner_of n in
    some_less (room_in l) l.loop-cutting.invariant.2 (cut_row n.next_cut-cutting.result) _ n.next_cut-cutting.ensures.first (omega arith)

loop2_again : tie.Need-loop-cutting-preserved invariant_loop2 decreases_loop2 invariant_loop decreases_loop
loop2_again c =
    let p = c in
    let n = cut_of c in
    let l = inner_of n in
    let row = cut_row n.next_cut-cutting.result in (
      n.next_cut-cutting.ensures.sound,
      n.next_cut-cutting.ensures.cut,
      some_written (room_in l) l.loop-cutting.invariant.2 row _ n.next_cut-cutting.ensures.first
          (lent l.loop-cutting.buf l.loop-cutting.at (row_from (outer l).args.origin row) p.put_two.new.part p.put_two.ensures),
    )

-- ---- behind it: the end of the plunge
put_end_requires : tie.Need-put_end-end-requires invariant_loop2 decreases_loop2 invariant_loop decreases_loop
put_end_requires c κs =
    let e = c in
    let l = e in
    (l.loop-cutting.invariant.0, l.loop-cutting.invariant.1, sym e.is_before_cut_and_back.ensures ∙ e.loop-cutting-test.false, left_room (room_in l.before.before.before) l.loop-cutting.invariant.2)

abbrev end_of : tie.After-left-in-loop-origin-1 invariant_loop2 decreases_loop2 invariant_loop decreases_loop → tie.After-put_end-end invariant_loop2 decreases_loop2 invariant_loop decreases_loop
end_of c = c.before.before.before

abbrev inner_by : tie.After-put_end-end invariant_loop2 decreases_loop2 invariant_loop decreases_loop → tie.At-loop-cutting invariant_loop2 decreases_loop2 invariant_loop decreases_loop
inner_by n = n.before.before.before.before

loop_less : tie.Need-loop-origin-smaller invariant_loop2 decreases_loop2 invariant_loop decreases_loop
loop_less c =
    let n = end_of c in
    let l = inner_by n in
    omega (arith, n.put_end-end.ensures.2, left_few (room_in l) l.loop-cutting.invariant.2)

loop_again : tie.Need-loop-origin-preserved invariant_loop2 decreases_loop2 invariant_loop decreases_loop
loop_again c =
    let n = end_of c in
    let l = inner_by n in
    let o = outer l in (
      n.put_end-end.ensures.0.sound,
      n.put_end-end.ensures.1,
      written_on o.requires.2 o.loop-origin.invariant.2 (written_on (room_in l) l.loop-cutting.invariant.2 n.put_end-end.ensures.0.written),
    )

same_length : tie.Need-shape_of-buf invariant_loop2 decreases_loop2 invariant_loop decreases_loop
same_length c =
    let l = c in
    written_length l.requires.2 l.loop-origin.invariant.2

returns : tie.Need-returns invariant_loop2 decreases_loop2 invariant_loop decreases_loop
returns c =
    let l = c in
    let none = rest_none l.loop-origin.left (sym c.is_over.ensures ∙ c.loop-origin-test.false) in
    let room = l.requires.2 in
    (written_end room l.loop-origin.invariant.2 none, all_written room l.loop-origin.invariant.2 none)

pub put_plunges_spec : {M : Type 1} → statement M
put_plunges_spec =
    tie.close
    (tie.spec
    invariant_loop2
    decreases_loop2
    invariant_loop
    decreases_loop
    loop_holds
    (λ c κs. search rules)
    loop2_holds
    (λ c κs. search rules)
    next_cut_requires
    sub_put_two
    part_put_two_start
    part_put_two_end
    put_two_requires
    add_at
    loop2_less
    loop2_again
    put_end_requires
    loop_less
    loop_again
    same_length
    returns)
