-- `opening::alone` meets its contract.
use mathlib.Core.Path.{refl}
use Rattle.opening.specs.Opened.{alone}
use Rattle.opening.proofs.alone.Statement.{statement}
use Rattle.opening.proofs.alone.Tie as tie

returns : tie.Need-returns
unfolding alone
returns c = refl

pub alone_spec : {M : Type 1} → statement M
alone_spec = tie.close (tie.spec returns)
