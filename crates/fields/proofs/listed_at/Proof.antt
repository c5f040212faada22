-- `fields::listed_at` meets its contract.
use mathlib.Core.Path.{ap, ◌∙◌}
use borrow.Author.Rules.{rules}
use Rattle.moves.specs.Form.{record_start, listed}
use Rattle.moves.specs.Reading.{record_in, origin_in}
use Rattle.fields.proofs.Taking.{part_is}
use Rattle.fields.proofs.listed_at.Statement.{statement}
use Rattle.fields.proofs.listed_at.Tie as tie

returns : tie.Need-returns
returns c =
    let o = c in
    let r = o in
    let s = r in
    let same = part_is s.args.list.now (record_start s.args.k) in
    λ i. listed ((o.origin_in-origin.ensures ∙ ap origin_in same) i) ((r.record_in-what.ensures ∙ ap record_in same) i)

pub listed_at_spec : {M : Type 1} → statement M
listed_at_spec =
    tie.close
    (tie.spec
    (λ c. search rules)
    (λ c. search rules)
    (λ c. search rules)
    (λ c. search rules)
    (λ c. search rules)
    (λ c κs. search rules)
    (λ c. search rules)
    (λ c. search rules)
    (λ c. search rules)
    (λ c κs. search rules)
    returns)
