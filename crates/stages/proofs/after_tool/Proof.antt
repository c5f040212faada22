-- `stages::after_tool` meets its contract.
use borrow.Author.Rules.{rules}
use Rattle.stages.proofs.Cursors.{spindle_due, spindle_none}
use Rattle.stages.proofs.after_tool.Statement.{statement}
use Rattle.stages.proofs.after_tool.Tie as tie

returns : tie.Need-returns-then-p
returns c = let s = c in spindle_due s.args.p s.requires c.if-p.true

returns_2 : tie.Need-returns
returns_2 c =
    let n = c in
    let s = n in
    spindle_none s.args.p s.requires n.if-p.false c.after_spindle.ensures

pub after_tool_spec : {M : Type 1} → statement M
after_tool_spec = tie.close (tie.spec returns (λ c κs. search rules) returns_2)
