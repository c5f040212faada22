-- `bores::first_bite` meets its contract.
use borrow.Author.Tests.{eq-eqb, ne_eqb}
use mathlib.Core.Path.{refl}
use Rattle.bores.proofs.first_bite.Statement.{statement}
use Rattle.bores.proofs.first_bite.Tie as tie

returns : tie.Need-returns-then-first-eq0
returns c = rw (eq-eqb _ _ c.if-first-eq0.true) refl

returns_2 : tie.Need-returns
returns_2 c = rw (ne_eqb _ _ c.if-first-eq0.false) refl

pub first_bite_spec : {M : Type 1} → statement M
first_bite_spec = tie.close (tie.spec returns returns_2)
