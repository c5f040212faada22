-- `starting::refused` meets its contract.
use borrow.Author.Rules.{rules}
use Rattle.starting.proofs.Begun.{refused_so}
use Rattle.starting.proofs.refused.Statement.{statement}
use Rattle.starting.proofs.refused.Tie as tie

returns : tie.Need-returns
returns c = let a = c.args in refused_so a.alarm a.place c.at_start.ensures c.standing.ensures

pub refused_spec : {M : Type 1} → statement M
refused_spec = tie.close (tie.spec (λ c κs. search rules) (λ c κs. search rules) returns)
