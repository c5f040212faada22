-- `depths::squares_in` meets its contract.
use native.Mathlib.Nat.{mul-le-mul, mul-pos}
use borrow.Author.Rules.{rules}
use Rattle.depths.specs.Depths.{cut_count}
use Rattle.depths.proofs.squares_in.Statement.{statement}
use Rattle.depths.proofs.squares_in.Tie as tie

returns : tie.Need-returns
unfolding cut_count
returns c = c.piece_count.ensures

pub squares_in_spec : {M : Type 1} → statement M
squares_in_spec =
    tie.close
    (tie.spec
    (λ c. let h = c.requires.2 in let k = mul-le-mul h h in search rules)
    (λ c. let h = c.requires.1 in let k = mul-le-mul h h in search rules)
    (λ c κs. let p = c.requires.0 in (mul-pos p.d6 p.d6, mul-pos p.d3 p.d3))
    returns)
