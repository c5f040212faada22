-- `board::tm02_next` meets its contract.
use borrow.Author.Rules.{rules}
use Rattle.board.proofs.Asked.{told_fits}
use Rattle.board.proofs.tm02_next.Statement.{statement}
use Rattle.board.proofs.tm02_next.Tie as tie

told_number_requires : tie.Need-told_number-requires
told_number_requires c κs = let asked = c.next-told in told_fits asked.result asked.ensures.fits

pub tm02_next_spec : {M : Type 1} → statement M
tm02_next_spec = tie.close (tie.spec (λ c κs. search rules) told_number_requires (λ c. search rules) (λ c. search rules) (λ c. search rules))
