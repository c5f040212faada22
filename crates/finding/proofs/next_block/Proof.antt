-- `finding::next_block` meets its contract.
-- The invariant: p is within the tape, and the next block from the start on is the next block from the line at p on.
use Prim.Native.Nat.{◌-◌, ◌≤◌, ◌<◌}
use mathlib.Core.Path.{◌≡◌, refl, sym, ap, ◌∙◌, subst}
use lib.ListN.{length, take, drop}
use native.Mathlib.Omega.{arith}
use borrow.Author.Rules.{rules}
use Rattle.tape.specs.Lines.{lines}
use Rattle.block.specs.Words.{StartIn}
use Rattle.block.specs.declared.LineStart.{LineStart}
use Rattle.block.proofs.Lines.{head_from}
use Rattle.finding.specs.declared.Here.{Here}
use Rattle.finding.specs.Finding.{AnyBlock, here_of, found_by, first_block, next_block}
use Rattle.finding.proofs.Searching.{seek_end, first_more, found_is, found_in}
use Rattle.finding.proofs.next_block.Statement.{statement}
use Rattle.finding.proofs.next_block.Tie as tie

abbrev invariant_loop : tie.invariant-loop-p
invariant_loop tape from p₀ p = (p ≤ length tape) × (first_block (lines tape from) ≡ first_block (lines tape p))

abbrev decreases_loop : tie.decreases-loop-p
decreases_loop tape from p₀ p = length tape - p

loop_holds : tie.Need-loop-p-init invariant_loop decreases_loop
loop_holds c = (omega arith, refl)

line_at_requires : tie.Need-line_at-line-requires invariant_loop decreases_loop
line_at_requires c κs = omega arith

sub_start_of : tie.Need-slice_bounds-start_of-count invariant_loop decreases_loop
sub_start_of c = omega (arith, c.line_at-line.ensures.1)

part_start_of_start : tie.Need-slice_bounds-start_of-start invariant_loop decreases_loop
part_start_of_start c = omega (arith, c.line_at-line.ensures.1)

part_start_of_end : tie.Need-slice_bounds-start_of-end invariant_loop decreases_loop
part_start_of_end c = omega (arith, c.line_at-line.ensures.1)

-- the next block from the start on, by what the line at p starts with
module _ (k : tie.After-start_of-start invariant_loop decreases_loop) where
  stepped : {x : LineStart} → k.start_of-start.result ≡ x →
      let l = k in
      let a = l.args in
      first_block (lines a.tape.now a.from)
      ≡ found_by (here_of AnyBlock (head_from x)) l.loop-p.p (first_block (lines a.tape.now l.line_at-line.result.after))
  stepped e =
      let l = k in
      let a = l.args in
      let at = l.loop-p in
      at.invariant.1 ∙ first_more a.tape.now at.p (omega arith) l.line_at-line.ensures.0 (sym e ∙ k.start_of-start.ensures.0)

  less :
      let l = k in
      let n = length l.args.tape.now in
      n - l.line_at-line.result.after < n - l.loop-p.p
  less = let l = k.line_at-line.ensures.1 in omega (arith, l, l.onward (omega arith))

loop_less : tie.Need-loop-p-smaller-in-Blank invariant_loop decreases_loop
loop_less c = less c.before

loop_again : tie.Need-loop-p-preserved-in-Blank invariant_loop decreases_loop
unfolding found_by here_of
loop_again c = let k = c in (k.line_at-line.ensures.1.ends, stepped k.before c.in-Blank.is)

loop_less_2 : tie.Need-loop-p-smaller-in-Fault invariant_loop decreases_loop
loop_less_2 c = less c.before

loop_again_2 : tie.Need-loop-p-preserved-in-Fault invariant_loop decreases_loop
unfolding found_by here_of
loop_again_2 c = let k = c in (k.line_at-line.ensures.1.ends, stepped k.before c.in-Fault.is)

-- and by what that line is to the search, where it starts with a word
by_here : (h : tie.After-any_here-here invariant_loop decreases_loop) {y : Here} → h.any_here-here.result ≡ y →
    let l = h in
    let a = l.args in
    first_block (lines a.tape.now a.from) ≡ found_by y l.loop-p.p (first_block (lines a.tape.now l.line_at-line.result.after))
by_here h e =
    let x = h in
    let k = x in
    let l = k in
    let a = l.args in
    stepped k.before.before x.in-With.is
    ∙ ap (λ (z : Here). found_by z l.loop-p.p (first_block (lines a.tape.now l.line_at-line.result.after))) (sym h.any_here-here.ensures ∙ e)

loop_less_3 : tie.Need-loop-p-smaller invariant_loop decreases_loop
loop_less_3 c = less c.before.before.before

loop_again_3 : tie.Need-loop-p-preserved invariant_loop decreases_loop
unfolding found_by
loop_again_3 c =
    let h = c in
    (h.line_at-line.ensures.1.ends, by_here h.before c.in-On.is)

returns : tie.Need-returns-then-p-tape invariant_loop decreases_loop
unfolding next_block
returns c =
    let a = c.args in
    (ap (next_block a.tape.now) (sym (c.loop-p.invariant.1 ∙ seek_end AnyBlock a.tape.now c.loop-p.p c.if-p-tape.true)), tt)

returns_2 : tie.Need-returns-in-Is invariant_loop decreases_loop
unfolding found_by
returns_2 c =
    let t = c in
    let h = t in
    let x = h in
    let k = x in
    let l = k in
    let a = l.args in
    let s = a.tape.now in
    let p = l.loop-p.p in
    let starts = k.start_of-start.ensures in (
      found_is s p (omega arith) l.line_at-line.ensures.0 starts.0 x.in-With.is c.number_of.ensures ∙ ap (next_block s) (sym (by_here h.before.before t.in-Is.is)),
      found_in s p (omega arith) l.line_at-line.ensures.0 starts.0 x.in-With.is c.number_of.ensures (sym h.any_here-here.ensures ∙ t.in-Is.is)
          (subst (λ (y : LineStart). StartIn y (length (take (l.line_at-line.result.stop - p) (drop p s)))) x.in-With.is starts.1) l.line_at-line.ensures.1,
    )

returns_3 : tie.Need-returns-in-Ends invariant_loop decreases_loop
unfolding found_by next_block
returns_3 c =
    let h = c in
    let a = h.args in
    (ap (next_block a.tape.now) (sym (by_here h.before c.in-Ends.is)), tt)

pub next_block_spec : {M : Type 1} → statement M
next_block_spec =
    tie.close
    (tie.spec
    invariant_loop
    decreases_loop
    loop_holds
    line_at_requires
    sub_start_of
    part_start_of_start
    part_start_of_end
    (λ c κs. search rules)
    (λ c. search rules)
    loop_less
    loop_again
    (λ c. search rules)
    loop_less_2
    loop_again_2
    (λ c. search rules)
    (λ c κs. search rules)
    (λ c. search rules)
    (λ c κs. search rules)
    (λ c. search rules)
    (λ c. search rules)
    loop_less_3
    loop_again_3
    returns
    returns_2
    returns_3)
