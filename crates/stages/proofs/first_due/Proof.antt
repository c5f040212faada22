-- `stages::first_due` meets its contract.
use borrow.Author.Rules.{rules}
use Rattle.stages.proofs.Cursors.{speed_due, speed_none}
use Rattle.stages.proofs.first_due.Statement.{statement}
use Rattle.stages.proofs.first_due.Tie as tie

returns : tie.Need-returns-then-has_speed
returns c = let s = c in speed_due s.args.p s.requires c.if-has_speed.true

returns_2 : tie.Need-returns
returns_2 c =
    let n = c in
    let s = n in
    speed_none s.args.p s.requires n.if-has_speed.false c.after_speed.ensures

pub first_due_spec : {M : Type 1} → statement M
first_due_spec = tie.close (tie.spec returns (λ c κs. search rules) returns_2)
