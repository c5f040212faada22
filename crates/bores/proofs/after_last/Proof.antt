-- `bores::after_last` meets its contract.
use borrow.Author.Tests.{eq-eqb, ne_eqb}
use mathlib.Core.Path.{refl}
use Rattle.bores.proofs.after_last.Statement.{statement}
use Rattle.bores.proofs.after_last.Tie as tie

returns : tie.Need-returns-then-dwell-eq0
returns c = rw (eq-eqb _ _ c.if-dwell-eq0.true) refl

returns_2 : tie.Need-returns
returns_2 c = rw (ne_eqb _ _ c.if-dwell-eq0.false) refl

pub after_last_spec : {M : Type 1} → statement M
after_last_spec = tie.close (tie.spec returns returns_2)
