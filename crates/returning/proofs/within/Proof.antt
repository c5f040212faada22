-- `returning::within` meets its contract.
use borrow.Author.Tests.{lt-ltb, le-ltb}
use Rattle.returning.specs.Moving.{within_of}
use Rattle.returning.proofs.within.Statement.{statement}
use Rattle.returning.proofs.within.Tie as tie

returns : tie.Need-returns-then-size-p
unfolding within_of
returns c = rw (lt-ltb _ _ c.if-size-p.true)

returns_2 : tie.Need-returns
unfolding within_of
returns_2 c = rw (le-ltb _ _ c.if-size-p.false)

pub within_spec : {M : Type 1} → statement M
within_spec = tie.close (tie.spec returns returns_2)
