-- `rules::calls_or_jumps` meets its contract.
use Rattle.rules.specs.Rules.{calls_or_jumps}
use borrow.Author.Rules.{rules}
use Rattle.rules.proofs.calls_or_jumps.Statement.{statement}
use Rattle.rules.proofs.calls_or_jumps.Tie as tie

has_requires : tie.Need-has-requires
has_requires c κs = search rules

returns : tie.Need-returns
unfolding calls_or_jumps
returns c = c.has.ensures

pub calls_or_jumps_spec : {M : Type 1} → statement M
calls_or_jumps_spec = tie.close (tie.spec has_requires returns)
