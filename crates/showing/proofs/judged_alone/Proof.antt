-- `showing::judged_alone` meets its contract.
use mathlib.Core.Bool.{false}
use borrow.Author.Rules.{rules}
use Rattle.showing.proofs.judged_alone.Statement.{statement}
use Rattle.showing.proofs.judged_alone.Tie as tie

returns : tie.Need-returns
returns c =
    let a = c.args in
    λ i. record { alarm = a.alarm; head = a.head; pointless = c.lacks_by.ensures i; broken = false; ends = false }

pub judged_alone_spec : {M : Type 1} → statement M
judged_alone_spec = tie.close (tie.spec (λ c κs. search rules) returns)
