-- `threading::depth_of` meets its contract.
use borrow.Author.Rules.{rules}
use Rattle.threading.proofs.Lines.{wide_small}
use Rattle.threading.proofs.depth_of.Statement.{statement}
use Rattle.threading.proofs.depth_of.Tie as tie

pub depth_of_spec : {M : Type 1} → statement M
depth_of_spec =
    tie.close
    (tie.spec
    (λ c κs. search rules)
    (λ c. let s = c in let h = wide_small s.args.t.facing s.args.t.d6 in search rules)
    (λ c. search rules))
