-- The stretches before hold no LF, and each byte on the way is none.
use Rattle.std.proofs.Common.{◌-◌, ◌∙◌, sym, eq-eqb, ne_eqb, arith}
use Rattle.tape.specs.Lines.{is_line_feed}
use Rattle.tape.proofs.Scanning.{scan_end, scan_hit, scan_more, scan_past}
use Rattle.tape.proofs.line.find_line_feed.Goals as goal

pub loop-i-init : goal.loop-i-init
unfolding is_line_feed
loop-i-init c =
    let a = c.args in
    let p = c.pass_stretches-near.ensures in
    let n = c.pass_stretches-near.result in
    (p.0, p.1, scan_past is_line_feed (n - a.from) a.tape.now a.from n (omega (arith, p.0)) p.1 (λ k l h. ne_eqb _ _ (p.2 k l h).0))

pub loop-i-preserved : goal.loop-i-preserved
unfolding is_line_feed
loop-i-preserved c =
    let l = c.loop-i in
    (omega arith, omega arith, l.invariant.2 ∙ scan_more is_line_feed c.args.tape.now l.i (omega arith) (ne_eqb _ _ c.if-tape-i-eq10.false))

pub returns-then-tape-i-eq10 : goal.returns-then-tape-i-eq10
unfolding is_line_feed
returns-then-tape-i-eq10 c =
    let l = c.loop-i in
    (sym (l.invariant.2 ∙ scan_hit is_line_feed c.args.tape.now l.i (omega arith) (eq-eqb _ _ c.if-tape-i-eq10.true)), l.invariant.0, omega arith)

pub returns : goal.returns
returns c =
    let l = c.loop-i in
    let e = l.invariant.2 ∙ scan_end is_line_feed c.args.tape.now l.i (omega arith) in
    (omega (arith, e), c.requires, omega arith)
