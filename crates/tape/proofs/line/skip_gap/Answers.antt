-- Each byte goes on by one law of `gap_of`; a comment by what `skip_comment` says of it.
use Rattle.std.proofs.Common.{◌∙◌, sym, arith}
use Rattle.tape.proofs.Lining.{gap_end, gap_begin, gap_space, gap_word}
use Rattle.tape.proofs.line.skip_gap.Goals as goal

pub returns-in-Fault : goal.returns-in-Fault
returns-in-Fault c = (sym (c.loop-i.invariant.2 ∙ gap_begin c.args.line.now c.loop-i.i (omega arith) c.in-40.is ∙ c.in-Fault.ensures), tt)

pub loop-i-preserved-in-At : goal.loop-i-preserved-in-At
loop-i-preserved-in-At c =
    let p = c.in-At.ensures in
    (omega (arith, p.1), p.2, c.loop-i.invariant.2 ∙ gap_begin c.args.line.now c.loop-i.i (omega arith) c.in-40.is ∙ p.0)

pub loop-i-preserved : goal.loop-i-preserved
loop-i-preserved c = (omega arith, omega arith, c.loop-i.invariant.2 ∙ gap_space c.args.line.now c.loop-i.i (omega arith) c.in-32.is)

pub returns-in_default : goal.returns-in_default
returns-in_default c =
    (sym (c.loop-i.invariant.2 ∙ gap_word c.args.line.now c.loop-i.i (omega arith) (grind arith) (grind arith)), (c.loop-i.invariant.0, omega arith))

pub returns : goal.returns
returns c = (sym (c.loop-i.invariant.2 ∙ gap_end c.args.line.now c.loop-i.i (omega arith)), (c.loop-i.invariant.0, c.loop-i.invariant.1))
