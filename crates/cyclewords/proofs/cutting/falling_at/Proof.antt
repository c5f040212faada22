-- `cyclewords::cutting::falling_at` meets its contract.
use borrow.Author.Rules.{rules}
use Rattle.cells.specs.Numbers.{at}
use Prim.Native.Nat.{◌+◌}
use Rattle.cyclewords.proofs.cutting.falling_at.Statement.{statement}
use Rattle.cyclewords.proofs.cutting.falling_at.Tie as tie

returns : tie.Need-returns
returns c =
    let sum = c in
    let square = sum in
    let s = square in
    let w = s.args.w.now in
    let k = s.args.at in
    λ i.
    record {
      d3 = at w k;
      d6 = at w (k + 1);
      square = square.wide_at.ensures i;
      sum = sum.wide_at-2.ensures i;
      left = at w (k + 6);
    }

pub falling_at_spec : {M : Type 1} → statement M
falling_at_spec =
    tie.close
    (tie.spec
    (λ c. search rules)
    (λ c. search rules)
    (λ c. search rules)
    (λ c. search rules)
    (λ c. search rules)
    (λ c. search rules)
    (λ c κs. search rules)
    (λ c. search rules)
    (λ c κs. search rules)
    (λ c. search rules)
    (λ c. search rules)
    (λ c. search rules)
    returns)
