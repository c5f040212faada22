-- `planwords::record_at` meets its contract.
use mathlib.Core.Path.{◌∙◌}
use mir.Syntax.{w32}
use mir.Facts.{to_z-of_z}
use borrow.Author.Rules.{rules, sfits_of}
use Rattle.cells.specs.Numbers.{at}
use Prim.Native.Nat.{◌+◌}
use Rattle.planwords.proofs.record_at.Statement.{statement}
use Rattle.planwords.proofs.record_at.Tie as tie

returns : tie.Need-returns
returns c =
    let z = c in
    let x = z in
    let flags = x in
    let kind = flags in
    let w = kind.args.w.now in
    λ i.
    record {
      kind = kind.byte_at.ensures i;
      flags = flags.byte_at-2.ensures i;
      x = (to_z-of_z (sfits_of {w = w32} x.signed_at.type_inv) ∙ x.signed_at.ensures) i;
      z = (to_z-of_z (sfits_of {w = w32} z.signed_at-2.type_inv) ∙ z.signed_at-2.ensures) i;
      value = at w (kind.args.at + 4);
    }

pub record_at_spec : {M : Type 1} → statement M
record_at_spec =
    tie.close
    (tie.spec
    (λ c κs. search rules)
    (λ c. search rules)
    (λ c κs. search rules)
    (λ c. search rules)
    (λ c κs. search rules)
    (λ c. search rules)
    (λ c κs. search rules)
    (λ c. search rules)
    (λ c. search rules)
    (λ c. search rules)
    returns)
