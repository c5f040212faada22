-- `planwords::origin_of` meets its contract.
use borrow.Author.Rules.{rules}
use Rattle.planwords.specs.Plan.{origin_of}
use Rattle.planwords.proofs.origin_of.Statement.{statement}
use Rattle.planwords.proofs.origin_of.Tie as tie

returns : tie.Need-returns
unfolding origin_of
returns c =
    let program = c in
    λ i.
    record {
      program = program.short_at.ensures i;
      block = c.short_at-2.ensures i;
    }

pub origin_of_spec : {M : Type 1} → statement M
origin_of_spec = tie.close (tie.spec (λ c κs. search rules) (λ c κs. search rules) returns)
