-- `cyclewords::threaded::cursor_of` meets its contract.
use mathlib.Core.Path.{◌∙◌}
use mir.Syntax.{w32}
use mir.Facts.{to_z-of_z}
use borrow.Author.Rules.{rules, sfits_of}
use Rattle.cells.specs.Numbers.{at}
use Rattle.cyclewords.specs.Threaded.{threading_of}
use Rattle.cyclewords.proofs.threaded.cursor_of.Statement.{statement}
use Rattle.cyclewords.proofs.threaded.cursor_of.Tie as tie

returns : tie.Need-returns
unfolding threading_of
returns c =
    let line = c in
    let stage = line in
    let cuts = stage in
    let side = cuts in
    let pass = side in
    let w = pass.args.w.now in
    λ i.
    record {
      pass = pass.pass_of-pass.ensures i;
      side = side.side_of-side.ensures i;
      line = (to_z-of_z (sfits_of {w = w32} line.signed_at.type_inv) ∙ line.signed_at.ensures) i;
      depth = at w 9;
      cuts = cuts.cuts_at-cuts.ensures i;
      empty = at w 18;
      stage = stage.stage_of-stage.ensures i;
    }

pub cursor_of_spec : {M : Type 1} → statement M
cursor_of_spec =
    tie.close
    (tie.spec
    (λ c κs. search rules)
    (λ c. search rules)
    (λ c κs. search rules)
    (λ c κs. search rules)
    (λ c. search rules)
    (λ c κs. search rules)
    (λ c κs. search rules)
    (λ c. search rules)
    (λ c. search rules)
    returns)
