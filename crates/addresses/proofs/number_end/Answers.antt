use Rattle.std.proofs.Common.{◌∙◌, sym, arith}
use Rattle.tape.proofs.Scanning.{scan_end, scan_hit, scan_more}
use Rattle.addresses.specs.Words.{ends_number}
use Rattle.addresses.proofs.number_end.Goals as goal

pub loop-i-preserved : goal.loop-i-preserved
loop-i-preserved c =
    let l = c.loop-i in
    (omega arith, omega arith, l.invariant.2 ∙ scan_more ends_number c.args.line.now l.i (omega arith) (sym c.ends_number.ensures ∙ c.if-ends_number.false))

pub returns-then-ends_number : goal.returns-then-ends_number
returns-then-ends_number c =
    let l = c.loop-i in
    (sym (l.invariant.2 ∙ scan_hit ends_number c.args.line.now l.i (omega arith) (sym c.ends_number.ensures ∙ c.if-ends_number.true)), l.invariant.0, omega arith)

pub returns : goal.returns
returns c =
    let l = c.loop-i in
    let e = l.invariant.2 ∙ scan_end ends_number c.args.line.now l.i (omega arith) in
    (omega (arith, e), c.requires, omega arith)
