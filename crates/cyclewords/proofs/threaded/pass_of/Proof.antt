-- `cyclewords::threaded::pass_of` meets its contract.
use mathlib.Core.Path.{◌∙◌}
use mir.Syntax.{w32}
use mir.Facts.{to_z-of_z}
use borrow.Author.Rules.{rules, sfits_of}
use Rattle.cells.specs.Numbers.{at}
use Rattle.cyclewords.proofs.threaded.pass_of.Statement.{statement}
use Rattle.cyclewords.proofs.threaded.pass_of.Tie as tie

returns : tie.Need-returns
returns c =
    let home = c in
    let from = home in
    let facing = from in
    let w = facing.args.w.now in
    λ i.
    record {
      facing = facing.flag_at.ensures i;
      pitch = at w 3;
      from = (to_z-of_z (sfits_of {w = w32} from.signed_at.type_inv) ∙ from.signed_at.ensures) i;
      home = (to_z-of_z (sfits_of {w = w32} home.signed_at-2.type_inv) ∙ home.signed_at-2.ensures) i;
      end = (to_z-of_z (sfits_of {w = w32} c.signed_at-3.type_inv) ∙ c.signed_at-3.ensures) i;
    }

pub pass_of_spec : {M : Type 1} → statement M
pass_of_spec =
    tie.close
    (tie.spec
    (λ c κs. search rules)
    (λ c. search rules)
    (λ c κs. search rules)
    (λ c κs. search rules)
    (λ c κs. search rules)
    returns)
