-- `cyclewords::drilled::bore_of` meets its contract.
use mathlib.Core.Path.{◌∙◌}
use mir.Syntax.{w32}
use mir.Facts.{to_z-of_z}
use borrow.Author.Rules.{rules, sfits_of}
use Rattle.cells.specs.Numbers.{at}
use Rattle.cyclewords.proofs.drilled.bore_of.Statement.{statement}
use Rattle.cyclewords.proofs.drilled.bore_of.Tie as tie

returns : tie.Need-returns
returns c =
    let target = c in
    let start = target in
    let x = start in
    let full = x in
    let w = full.args.w.now in
    λ i.
    record {
      full = full.flag_at.ensures i;
      x = (to_z-of_z (sfits_of {w = w32} x.signed_at.type_inv) ∙ x.signed_at.ensures) i;
      start = (to_z-of_z (sfits_of {w = w32} start.signed_at-2.type_inv) ∙ start.signed_at-2.ensures) i;
      target = (to_z-of_z (sfits_of {w = w32} target.signed_at-3.type_inv) ∙ target.signed_at-3.ensures) i;
      first = at w 6;
      less = at w 7;
      least = at w 8;
      dwell = at w 9;
      back = at w 10;
      f = at w 11;
      g95 = c.flag_at-2.ensures i;
    }

pub bore_of_spec : {M : Type 1} → statement M
bore_of_spec =
    tie.close
    (tie.spec
    (λ c κs. search rules)
    (λ c κs. search rules)
    (λ c κs. search rules)
    (λ c κs. search rules)
    (λ c. search rules)
    (λ c. search rules)
    (λ c. search rules)
    (λ c. search rules)
    (λ c. search rules)
    (λ c. search rules)
    (λ c κs. search rules)
    returns)
