-- `cyclewords::grooved::groove_of` meets its contract.
use borrow.Author.Rules.{rules}
use Rattle.cells.specs.Numbers.{at}
use Rattle.cyclewords.proofs.grooved.groove_of.Statement.{statement}
use Rattle.cyclewords.proofs.grooved.groove_of.Tie as tie

returns : tie.Need-returns
returns c =
    let facing = c in
    let width = facing in
    let depth = width in
    let w = depth.args.w.now in
    λ i.
    record {
      facing = facing.flag_at.ensures i;
      depth = depth.way_at-depth.ensures i;
      width = width.way_at-width.ensures i;
      tool = at w 7;
      overlap = at w 8;
      piece = at w 9;
      back = at w 10;
      dwell = at w 11;
      f = at w 12;
      g95 = c.flag_at-2.ensures i;
    }

pub groove_of_spec : {M : Type 1} → statement M
groove_of_spec =
    tie.close
    (tie.spec
    (λ c κs. search rules)
    (λ c κs. search rules)
    (λ c κs. search rules)
    (λ c. search rules)
    (λ c. search rules)
    (λ c. search rules)
    (λ c. search rules)
    (λ c. search rules)
    (λ c. search rules)
    (λ c κs. search rules)
    returns)
