-- `stages::after_speed` meets its contract.
use borrow.Author.Rules.{rules}
use Rattle.stages.proofs.Cursors.{tool_due, tool_none}
use Rattle.stages.proofs.after_speed.Statement.{statement}
use Rattle.stages.proofs.after_speed.Tie as tie

returns : tie.Need-returns-then-p
returns c = let s = c in tool_due s.args.p s.requires c.if-p.true

returns_2 : tie.Need-returns
returns_2 c =
    let n = c in
    let s = n in
    tool_none s.args.p s.requires n.if-p.false c.after_tool.ensures

pub after_speed_spec : {M : Type 1} → statement M
after_speed_spec = tie.close (tie.spec returns (λ c κs. search rules) returns_2)
