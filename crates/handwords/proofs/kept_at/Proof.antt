-- `handwords::kept_at` meets its contract.
use mathlib.Core.Path.{refl, sym, ◌∙◌}
use borrow.Author.Rules.{rules}
use Rattle.handwords.proofs.kept_at.Statement.{statement}
use Rattle.handwords.proofs.kept_at.Tie as tie

returns_2 : tie.Need-returns
returns_2 c = rw (sym c.is_lead.ensures ∙ c.if-is_lead.false) refl

pub kept_at_spec : {M : Type 1} → statement M
kept_at_spec = tie.close (tie.spec (λ c κs. search rules) (λ c. search rules) returns_2)
