-- `stages::after_spindle` meets its contract.
use Rattle.stages.proofs.Cursors.{coolant_due, coolant_none}
use Rattle.stages.proofs.after_spindle.Statement.{statement}
use Rattle.stages.proofs.after_spindle.Tie as tie

returns : tie.Need-returns-then-p
returns c = let s = c in coolant_due s.args.p s.requires c.if-p.true

returns_2 : tie.Need-returns
returns_2 c = let s = c in coolant_none s.args.p s.requires c.if-p.false

pub after_spindle_spec : {M : Type 1} → statement M
after_spindle_spec = tie.close (tie.spec returns returns_2)
