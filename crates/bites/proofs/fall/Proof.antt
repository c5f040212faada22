-- `bites::fall` meets its contract. The loop: `Fell` of its locals; what is left falls.
use borrow.Author.Rules.{rules}
use native.Mathlib.Omega.{arith}
use Rattle.bites.proofs.Walking.{Fell, begins, above, goes_on, ends, test_on, test_over}
use Rattle.bites.proofs.fall.Statement.{statement}
use Rattle.bites.proofs.fall.Tie as tie

abbrev invariant_loop : tie.invariant-loop-bite
invariant_loop first less least stroke bites₀ bite₀ next₀ left₀ bites bite next left = Fell less least first stroke bites bite next left

abbrev decreases_loop : tie.decreases-loop-bite
decreases_loop first less least stroke bites₀ bite₀ next₀ left₀ bites bite next left = left

next_bite_requires : tie.Need-next_bite-next-requires invariant_loop decreases_loop
next_bite_requires c κs = search rules

loop_holds : tie.Need-loop-bite-init invariant_loop decreases_loop
loop_holds c = let s = c in begins _ _ _ _ _ c.next_bite-next.ensures s.requires.1 s.requires.2 (search rules)

sub_left : tie.Need-overflow_sub-left invariant_loop decreases_loop
sub_left c = let l = c.loop-bite in omega (arith, (test_on l.bite l.left l.next c.loop-bite-test.true).0)

next_bite_requires_2 : tie.Need-next_bite-next-requires-in-loop-bite invariant_loop decreases_loop
next_bite_requires_2 c κs = search rules

add_bites : tie.Need-overflow_add-bites invariant_loop decreases_loop
add_bites c = let w = c.loop-bite.invariant in omega (arith, w.cost)

loop_less : tie.Need-loop-bite-smaller invariant_loop decreases_loop
loop_less c =
    let l = c.loop-bite in
    let t = test_on l.bite l.left l.next c.loop-bite-test.true in
    let w = l.invariant in
    omega (arith, t.0, above w t.0 t.1, w.some)

loop_again : tie.Need-loop-bite-preserved invariant_loop decreases_loop
loop_again c =
    let t = test_on _ _ _ c.loop-bite-test.true in
    goes_on c.loop-bite.invariant t.0 t.1 c.next_bite-next-in-loop-bite.result c.next_bite-next-in-loop-bite.ensures

returns : tie.Need-returns invariant_loop decreases_loop
returns c = ends c.loop-bite.invariant (test_over _ _ _ c.loop-bite-test.false)

pub fall_spec : {M : Type 1} → statement M
fall_spec =
    tie.close
    (tie.spec
    invariant_loop
    decreases_loop
    next_bite_requires
    loop_holds
    sub_left
    next_bite_requires_2
    add_bites
    loop_less
    loop_again
    returns)
