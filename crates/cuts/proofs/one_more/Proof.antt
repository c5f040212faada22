-- `cuts::one_more` meets its contract.
use borrow.Author.Rules.{rules}
use Rattle.cuts.proofs.Opened.{sum_fits}
use Rattle.cuts.proofs.one_more.Statement.{statement}
use Rattle.cuts.proofs.one_more.Tie as tie

pub one_more_spec : {M : Type 1} → statement M
one_more_spec =
    tie.close
    (tie.spec
    (λ c. let s = c in let h = sum_fits s.args.f s.requires.0 s.requires.1 in search rules)
    (λ c. search rules)
    (λ c. search rules))
