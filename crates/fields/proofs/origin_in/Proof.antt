-- `fields::origin_in` meets its contract.
use borrow.Author.Rules.{rules}
use Rattle.moves.specs.Reading.{origin_in}
use Rattle.fields.proofs.origin_in.Statement.{statement}
use Rattle.fields.proofs.origin_in.Tie as tie

returns : tie.Need-returns
unfolding origin_in
returns c =
    let second = c in
    let first = second in
    λ i. record { program = first.two_at-program.ensures.0 i; block = second.two_at-block.ensures.0 i }

pub origin_in_spec : {M : Type 1} → statement M
origin_in_spec = tie.close (tie.spec (λ c κs. search rules) (λ c κs. search rules) (λ c. search rules) (λ c. search rules) returns)
