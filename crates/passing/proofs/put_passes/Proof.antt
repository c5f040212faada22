-- `passing::put_passes` meets its contract. The loop's invariant: some passes are written, and the cursor has the others. The measure is how many records are left.
use borrow.Author.Rules.{rules}
use borrow.Author.Tests.{not-true, not-false}
use mathlib.Core.Path.{◌≡◌, refl, sym, subst, ◌∙◌}
use mathlib.Core.Bool.{true}
use mathlib.Core.List.{List, [], ◌∷◌}
use Prim.Native.Nat.{ℕ, ◌+◌, ◌-◌, ◌*◌, ◌≤◌}
use native.Mathlib.Omega.{arith}
use lib.ListN.{length}
use borrow.Rule.Slice.PartMut.{put_mid}
use Rattle.octets.proofs.Laying.{lent}
use Rattle.moves.specs.declared.Record.{Record}
use Rattle.moves.specs.Form.{record_size, row_from}
use Rattle.moves.specs.Written.{Written}
use Rattle.moves.proofs.Written.{none_written, some_written, some_room, some_less, all_written, written_end, written_length}
use Rattle.passes.specs.Cursor.{rest_of, before_pass, Sound, pass_row}
use Rattle.passes.proofs.Cursors.{rest_none}
use Rattle.passing.proofs.put_passes.Statement.{statement}
use Rattle.passing.proofs.put_passes.Tie as tie

abbrev invariant_loop : tie.invariant-loop-origin
invariant_loop buf₀ first origin left₀ at₀ buf left at = Sound left × (before_pass left ≡ true) × Written origin buf₀ first (rest_of left₀) buf (rest_of left) at

abbrev decreases_loop : tie.decreases-loop-origin
decreases_loop buf₀ first origin left₀ at₀ buf left at = length (rest_of left)

abbrev loop_of : tie.After-next_pass-passed invariant_loop decreases_loop → tie.At-loop-origin invariant_loop decreases_loop
loop_of n = n.before.before.before

-- the pass has room
has_room : (n : tie.After-next_pass-passed invariant_loop decreases_loop) → (loop_of n).loop-origin.at + record_size * length (pass_row n.next_pass-passed.result) ≤ length (loop_of n).loop-origin.buf
has_room n =
    let l = loop_of n in
    some_room l.requires.2 l.loop-origin.invariant.2 (pass_row n.next_pass-passed.result) _ n.next_pass-passed.ensures.first

-- its first two records are written
abbrev pass_of : tie.After-put_two invariant_loop decreases_loop → tie.After-next_pass-passed invariant_loop decreases_loop
pass_of p = p.before.before.before.before.before.before

abbrev halfway : tie.After-put_two invariant_loop decreases_loop → List ℕ
halfway p =
    let l = loop_of (pass_of p) in
    put_mid l.loop-origin.at (length l.loop-origin.buf - l.loop-origin.at) l.loop-origin.buf p.put_two.new.part

half : (p : tie.After-put_two invariant_loop decreases_loop)
    → (let n = pass_of p in let l = loop_of n in let s = l in let r = n.next_pass-passed.result in
    Written s.args.origin s.args.buf.now s.args.first (rest_of s.args.c) (halfway p) (r.outward ∷ r.home ∷ rest_of r.rest) (l.loop-origin.at + record_size * 2))
half p =
    let n = pass_of p in
    let l = loop_of n in
    let r = n.next_pass-passed.result in
    let row : List Record = r.inward ∷ r.along ∷ [] in
    some_written l.requires.2 l.loop-origin.invariant.2 row _ n.next_pass-passed.ensures.first
    (lent l.loop-origin.buf l.loop-origin.at (row_from l.args.origin row) p.put_two.new.part p.put_two.ensures)

half_room : (p : tie.After-put_two invariant_loop decreases_loop) → (let l = loop_of (pass_of p) in (l.loop-origin.at + record_size * 2) + record_size * 2 ≤ length (halfway p))
half_room p =
    let n = pass_of p in
    let r = n.next_pass-passed.result in
    some_room (loop_of n).requires.2 (half p) (r.outward ∷ r.home ∷ []) _ refl

loop_holds : tie.Need-loop-origin-init invariant_loop decreases_loop
loop_holds c = let s = c in (s.requires.0, s.requires.1, none_written _ _ _ _)

next_pass_requires : tie.Need-next_pass-passed-requires invariant_loop decreases_loop
next_pass_requires c κs =
    let l = c in
    (l.loop-origin.invariant.0, l.loop-origin.invariant.1, sym c.is_over.ensures ∙ c.loop-origin-test.true)

sub_put_two : tie.Need-slice_bounds-put_two-count invariant_loop decreases_loop
sub_put_two c = omega (arith, has_room c.before.before.before.before)

part_put_two_start : tie.Need-slice_bounds-put_two-start invariant_loop decreases_loop
part_put_two_start c = let h = has_room c.before.before.before.before in search rules

part_put_two_end : tie.Need-slice_bounds-put_two-end invariant_loop decreases_loop
part_put_two_end c = let h = has_room c.before.before.before.before in search rules

put_two_requires : tie.Need-put_two-requires invariant_loop decreases_loop
put_two_requires c κs = let h = has_room c.before.before.before.before.before in search rules

add_put_two : tie.Need-overflow_add-at invariant_loop decreases_loop
add_put_two c =
    let n = pass_of c.before.before in
    let l = loop_of n in
    omega (arith, has_room n, written_length l.requires.2 l.loop-origin.invariant.2)

sub_put_two_2 : tie.Need-slice_bounds-put_two-count-in-loop-origin invariant_loop decreases_loop
sub_put_two_2 c = omega (arith, half_room c.before.before)

part_put_two_start_2 : tie.Need-slice_bounds-put_two-start-in-loop-origin invariant_loop decreases_loop
part_put_two_start_2 c = let h = half_room c.before.before in search rules

part_put_two_end_2 : tie.Need-slice_bounds-put_two-end-in-loop-origin invariant_loop decreases_loop
part_put_two_end_2 c = let h = half_room c.before.before in search rules

put_two_requires_2 : tie.Need-put_two-requires-in-loop-origin invariant_loop decreases_loop
put_two_requires_2 c κs = let h = half_room c.before.before.before in search rules

abbrev first_of : tie.After-left-1 invariant_loop decreases_loop → tie.After-put_two invariant_loop decreases_loop
first_of c = c.before.before.before.before.before.before.before

add_at : tie.Need-overflow_add-at-in-loop-origin invariant_loop decreases_loop
add_at c =
    let n = pass_of (first_of c) in
    let l = loop_of n in
    omega (arith, has_room n, written_length l.requires.2 l.loop-origin.invariant.2)

loop_less : tie.Need-loop-origin-smaller invariant_loop decreases_loop
loop_less c =
    let n = pass_of (first_of c) in
    let l = loop_of n in
    some_less l.requires.2 l.loop-origin.invariant.2 (pass_row n.next_pass-passed.result) _ n.next_pass-passed.ensures.first (omega arith)

loop_again : tie.Need-loop-origin-preserved invariant_loop decreases_loop
loop_again c =
    let q = c in
    let p = first_of c in
    let n = pass_of p in
    let l = loop_of n in
    let r = n.next_pass-passed.result in
    let row : List Record = r.outward ∷ r.home ∷ [] in
    let whole : (l.loop-origin.at + record_size * 2) + record_size * 2 ≡ l.loop-origin.at + 4 * record_size = omega arith in (
      n.next_pass-passed.ensures.sound,
      n.next_pass-passed.ensures.before,
      subst (Written _ _ _ _ _ _) whole
          (some_written l.requires.2 (half p) row _ refl
          (lent (halfway p) (l.loop-origin.at + record_size * 2) (row_from l.args.origin row) q.put_two-in-loop-origin.new.part q.put_two-in-loop-origin.ensures)),
    )

same_length : tie.Need-shape_of-buf invariant_loop decreases_loop
same_length c =
    let l = c in
    written_length l.requires.2 l.loop-origin.invariant.2

returns : tie.Need-returns invariant_loop decreases_loop
returns c =
    let l = c in
    let none = rest_none l.loop-origin.left (sym c.is_over.ensures ∙ c.loop-origin-test.false) in
    let room = l.requires.2 in
    (written_end room l.loop-origin.invariant.2 none, all_written room l.loop-origin.invariant.2 none)

pub put_passes_spec : {M : Type 1} → statement M
put_passes_spec =
    tie.close
    (tie.spec
    invariant_loop
    decreases_loop
    loop_holds
    (λ c κs. search rules)
    next_pass_requires
    sub_put_two
    part_put_two_start
    part_put_two_end
    put_two_requires
    add_put_two
    sub_put_two_2
    part_put_two_start_2
    part_put_two_end_2
    put_two_requires_2
    add_at
    loop_less
    loop_again
    same_length
    returns)
