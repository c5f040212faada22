-- `bites::has_zero` meets its contract.
use mathlib.Core.Path.{sym}
use borrow.Author.Rules.{rules}
use Rattle.bites.proofs.has_zero.Statement.{statement}
use Rattle.bites.proofs.has_zero.Tie as tie

fall_requires : tie.Need-fall-end-requires
fall_requires c κs = search rules

returns : tie.Need-returns
returns c = sym c.fall-end.ensures.zero

pub has_zero_spec : {M : Type 1} → statement M
has_zero_spec = tie.close (tie.spec fall_requires returns)
