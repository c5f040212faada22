-- `ahead::called_at` meets its contract.
use borrow.Author.Rules.{rules}
use borrow.Author.Tests.{eq-eqb, ne_eqb}
use Rattle.ahead.specs.Ahead.{called_at}
use Rattle.ahead.proofs.called_at.Statement.{statement}
use Rattle.ahead.proofs.called_at.Tie as tie

enum_told : tie.Need-enum_told-1
enum_told c = search rules

enum_known_found : tie.Need-enum_known-found
enum_known_found c = search rules

returns : tie.Need-returns-then-frame-eq0
unfolding called_at
returns c = rw (c.in-At.is, eq-eqb _ _ c.if-frame-eq0.true)

returns_2 : tie.Need-returns-in-Nowhere
unfolding called_at
returns_2 c = rw c.in-Nowhere.is

returns_3 : tie.Need-returns-else-frame-eq0
unfolding called_at
returns_3 c = rw (c.in-At.is, ne_eqb _ _ c.if-frame-eq0.false)

pub called_at_spec : {M : Type 1} → statement M
called_at_spec = tie.close (tie.spec enum_told enum_known_found returns returns_2 returns_3)
