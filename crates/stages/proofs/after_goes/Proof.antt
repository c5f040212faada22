-- `stages::after_goes` meets its contract.
use borrow.Author.Rules.{rules}
use Rattle.stages.proofs.Cursors.{centre_due, centre_none, behind_follows}
use Rattle.stages.proofs.after_goes.Statement.{statement}
use Rattle.stages.proofs.after_goes.Tie as tie

returns : tie.Need-returns-then-own
returns c = centre_due c.args.p c.if-own.true

returns_2 : tie.Need-returns
returns_2 c =
    let n = c in
    let p = n.args.p in
    centre_none p n.if-own.false (behind_follows p c.stage_behind.ensures)

pub after_goes_spec : {M : Type 1} → statement M
after_goes_spec = tie.close (tie.spec returns (λ c κs. search rules) returns_2)
