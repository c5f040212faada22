-- `cyclewords::turned::cursor_of` meets its contract.
use mathlib.Core.Path.{◌∙◌}
use mir.Syntax.{w32}
use mir.Facts.{to_z-of_z}
use borrow.Author.Rules.{rules, sfits_of}
use Rattle.cyclewords.specs.Turned.{turning_of}
use Rattle.cyclewords.proofs.turned.cursor_of.Statement.{statement}
use Rattle.cyclewords.proofs.turned.cursor_of.Tie as tie

returns : tie.Need-returns
unfolding turning_of
returns c =
    let stage = c in
    let side = stage in
    let depths = side in
    let pass = depths in
    λ i.
    record {
      pass = pass.pass_of-pass.ensures i;
      side = side.side_of-side.ensures i;
      line = (to_z-of_z (sfits_of {w = w32} c.signed_at.type_inv) ∙ c.signed_at.ensures) i;
      depths = depths.pieces_at-depths.ensures i;
      stage = stage.stage_of-stage.ensures i;
    }

pub cursor_of_spec : {M : Type 1} → statement M
cursor_of_spec =
    tie.close
    (tie.spec
    (λ c κs. search rules)
    (λ c κs. search rules)
    (λ c. search rules)
    (λ c κs. search rules)
    (λ c. search rules)
    (λ c κs. search rules)
    (λ c κs. search rules)
    returns)
