-- `panel::of_listmoves` meets its contract.
use mathlib.Core.Path.{ap, ◌∙◌}
use borrow.Author.Rules.{rules}
use Rattle.panel.specs.Row.{settings_of}
use Rattle.panel.proofs.of_listmoves.Statement.{statement}
use Rattle.panel.proofs.of_listmoves.Tie as tie

returns : tie.Need-returns
returns c = c.settings_of.ensures ∙ ap settings_of c.row_of_listmoves-row.ensures

pub of_listmoves_spec : {M : Type 1} → statement M
of_listmoves_spec = tie.close (tie.spec (λ c κs. search rules) (λ c. search rules) (λ c κs. search rules) returns)
