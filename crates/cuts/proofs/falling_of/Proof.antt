-- `cuts::falling_of` meets its contract.
use native.Mathlib.Nat.{mul-le-mul}
use borrow.Author.Rules.{rules}
use Rattle.cuts.proofs.falling_of.Statement.{statement}
use Rattle.cuts.proofs.falling_of.Tie as tie

pub falling_of_spec : {M : Type 1} → statement M
falling_of_spec = tie.close (tie.spec (λ c. let h = c.requires in let k = mul-le-mul h h in search rules) (λ c. search rules))
