-- `planwords::own_of` meets its contract.
use borrow.Author.Rules.{rules}
use Rattle.planwords.proofs.own_of.Statement.{statement}
use Rattle.planwords.proofs.own_of.Tie as tie

returns : tie.Need-returns
returns c =
    let centre = c in
    let goes = centre in
    λ i.
    record {
      goes = goes.record_at-goes.ensures i;
      centre = centre.record_at-centre.ensures i;
      has_centre = c.flag_at.ensures i;
    }

pub own_of_spec : {M : Type 1} → statement M
own_of_spec =
    tie.close
    (tie.spec
    (λ c κs. search rules)
    (λ c κs. search rules)
    (λ c κs. search rules)
    returns)
