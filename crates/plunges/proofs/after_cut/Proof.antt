-- `plunges::after_cut` meets its contract.
use borrow.Author.Tests.{lt-ltb, le-ltb}
use Rattle.plunges.proofs.after_cut.Statement.{statement}
use Rattle.plunges.proofs.after_cut.Tie as tie

pub after_cut_spec : {M : Type 1} → statement M
after_cut_spec =
    tie.close
    (tie.spec
    (λ c. simp (lt-ltb _ _ c.if-left-gt0.true))
    (λ c. simp (le-ltb _ _ c.if-left-gt0.false, lt-ltb _ _ c.if-dwell-gt0.true))
    (λ c. simp (le-ltb _ _ c.if-left-gt0.false, le-ltb _ _ c.if-dwell-gt0.false)))
