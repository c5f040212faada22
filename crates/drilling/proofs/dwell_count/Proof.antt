-- `drilling::dwell_count` meets its contract.
use borrow.Author.Tests.{eq-eqb, ne_eqb}
use mathlib.Core.Path.{refl}
use Rattle.drilling.proofs.dwell_count.Statement.{statement}
use Rattle.drilling.proofs.dwell_count.Tie as tie

returns : tie.Need-returns-then-tenths-eq0
returns c = rw (eq-eqb _ _ c.if-tenths-eq0.true) refl

returns_2 : tie.Need-returns
returns_2 c = rw (ne_eqb _ _ c.if-tenths-eq0.false) refl

pub dwell_count_spec : {M : Type 1} → statement M
dwell_count_spec = tie.close (tie.spec returns returns_2)
