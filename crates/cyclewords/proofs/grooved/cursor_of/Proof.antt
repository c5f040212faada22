-- `cyclewords::grooved::cursor_of` meets its contract.
use mathlib.Core.Path.{◌∙◌}
use mir.Syntax.{w32}
use mir.Facts.{to_z-of_z}
use borrow.Author.Rules.{rules, sfits_of}
use Rattle.cells.specs.Numbers.{at}
use Rattle.cyclewords.specs.Grooved.{grooving_of}
use Rattle.cyclewords.proofs.grooved.cursor_of.Statement.{statement}
use Rattle.cyclewords.proofs.grooved.cursor_of.Tie as tie

returns : tie.Need-returns
unfolding grooving_of
returns c =
    let width = c in
    let steps = width in
    let plunge = steps in
    let cuts = plunge in
    let stage = cuts in
    let groove = stage in
    let w = groove.args.w.now in
    λ i.
    record {
      groove = groove.groove_of-groove.ensures i;
      stage = stage.stage_of-stage.ensures i;
      width = (to_z-of_z (sfits_of {w = w32} width.signed_at.type_inv) ∙ width.signed_at.ensures) i;
      deep = at w 16;
      cuts = cuts.pieces_at-cuts.ensures i;
      plunge = plunge.pieces_at-plunge.ensures i;
      steps = steps.pieces_at-steps.ensures i;
      several = c.flag_at.ensures i;
    }

pub cursor_of_spec : {M : Type 1} → statement M
cursor_of_spec =
    tie.close
    (tie.spec
    (λ c κs. search rules)
    (λ c. search rules)
    (λ c κs. search rules)
    (λ c κs. search rules)
    (λ c κs. search rules)
    (λ c κs. search rules)
    (λ c κs. search rules)
    (λ c. search rules)
    (λ c κs. search rules)
    returns)
