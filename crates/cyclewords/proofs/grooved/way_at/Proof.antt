-- `cyclewords::grooved::way_at` meets its contract.
use mathlib.Core.Path.{◌∙◌}
use mir.Syntax.{w32}
use mir.Facts.{to_z-of_z}
use borrow.Author.Rules.{rules, sfits_of}
use Rattle.cyclewords.proofs.grooved.way_at.Statement.{statement}
use Rattle.cyclewords.proofs.grooved.way_at.Tie as tie

returns : tie.Need-returns
returns c =
    let start = c in
    λ i.
    record {
      start = (to_z-of_z (sfits_of {w = w32} start.signed_at.type_inv) ∙ start.signed_at.ensures) i;
      target = (to_z-of_z (sfits_of {w = w32} c.signed_at-2.type_inv) ∙ c.signed_at-2.ensures) i;
    }

pub way_at_spec : {M : Type 1} → statement M
way_at_spec = tie.close (tie.spec (λ c κs. search rules) (λ c. search rules) (λ c κs. search rules) returns)
