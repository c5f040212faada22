-- `handwords::kept_of` meets its contract.
use mathlib.Core.Path.{sym, ap, ◌∙◌}
use borrow.Author.Rules.{rules}
use Rattle.resumable.specs.Kept.{kept}
use Rattle.handwords.proofs.kept_of.Statement.{statement}
use Rattle.handwords.proofs.kept_of.Tie as tie

returns_5 : tie.Need-returns-in-Single
returns_5 c = let m = c in c.kept_at.ensures ∙ ap (kept m.args.deed) (sym m.in-Single.is)

pub kept_of_spec : {M : Type 1} → statement M
kept_of_spec =
    tie.close
    (tie.spec
    (λ c. search rules)
    (λ c. search rules)
    (λ c. search rules)
    (λ c. search rules)
    (λ c. search rules)
    (λ c κs. search rules)
    (λ c. search rules)
    (λ c. search rules)
    (λ c. search rules)
    (λ c. search rules)
    returns_5)
