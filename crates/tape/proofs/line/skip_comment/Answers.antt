-- Which byte was read is read off by the tactics, so that a condition that is another is refused for what it fails.
use Rattle.std.proofs.Common.{◌-◌, ◌∙◌, arith}
use Rattle.tape.proofs.Lining.{gap_open, gap_close, gap_inside, gap_past}
use Rattle.tape.proofs.line.skip_comment.Goals as goal

pub loop-i-init : goal.loop-i-init
loop-i-init c =
    let a = c.args in
    let p = c.pass_stretches-near.ensures in
    let r = c.pass_stretches-near.result in
    (p.0, p.1, gap_past (r - a.from) a.line.now a.from r (omega (arith, p.0)) p.1 p.2)

pub returns-then-byte-eq41 : goal.returns-then-byte-eq41
returns-then-byte-eq41 c = (c.loop-i.invariant.2 ∙ gap_close c.args.line.now c.loop-i.i (omega arith) c.if-byte-eq41.true, omega arith, omega arith)

pub loop-i-preserved : goal.loop-i-preserved
loop-i-preserved c = (omega arith, omega arith, c.loop-i.invariant.2 ∙ gap_inside c.args.line.now c.loop-i.i (omega arith) (grind arith) c.if-byte-eq41.false)

pub returns : goal.returns
returns c = c.loop-i.invariant.2 ∙ gap_open c.args.line.now c.loop-i.i (omega arith)
