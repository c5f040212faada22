-- `stands::stands_freely` meets its contract.
use mathlib.Core.Path.{refl}
use Rattle.stands.specs.Stands.{stands_freely}
use Rattle.stands.proofs.stands_freely.Statement.{statement}
use Rattle.stands.proofs.stands_freely.Tie as tie

returns : tie.Need-returns
unfolding stands_freely
returns c = refl

pub stands_freely_spec : {M : Type 1} → statement M
stands_freely_spec = tie.close (tie.spec returns)
