-- `fields::first_at` meets its contract.
use mathlib.Core.Path.{ap, ◌∙◌}
use borrow.Author.Rules.{rules}
use Rattle.moves.specs.Reading.{record_in}
use Rattle.lawful.specs.Versions.{start_in}
use Rattle.lawful.specs.declared.Version.TheVariants.{One}
use Rattle.fields.proofs.Taking.{part_is}
use Rattle.fields.proofs.first_at.Statement.{statement}
use Rattle.fields.proofs.first_at.Tie as tie

returns : tie.Need-returns
returns c = let s = c in c.record_in.ensures ∙ ap record_in (part_is s.args.list.now (start_in One s.args.k))

pub first_at_spec : {M : Type 1} → statement M
first_at_spec =
    tie.close
    (tie.spec
    (λ c. search rules)
    (λ c. search rules)
    (λ c. search rules)
    (λ c. search rules)
    (λ c. search rules)
    (λ c κs. search rules)
    returns)
