-- `writing::stops` meets its contract.
use mathlib.Core.Path.{ap, ◌∙◌}
use mathlib.Core.Bool.{not, ◌&&◌}
use borrow.Author.Rules.{rules}
use Rattle.acts.specs.Acting.{returns_by}
use Rattle.writing.specs.Writes.{stops}
use Rattle.writing.proofs.stops.Statement.{statement}
use Rattle.writing.proofs.stops.Tie as tie

returns : tie.Need-returns
unfolding stops
returns c =
    let r = c.returns_by.ensures ∙ ap returns_by c.m_in-code.ensures in
    λ i. c.has.ensures i && not (r i)

pub stops_spec : {M : Type 1} → statement M
stops_spec = tie.close (tie.spec (λ c κs. search rules) (λ c κs. search rules) (λ c κs. search rules) returns)
