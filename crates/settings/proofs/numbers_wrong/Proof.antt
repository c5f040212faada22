-- `settings::numbers_wrong` meets its contract.
use mathlib.Core.Path.{refl}
use Rattle.settings.specs.Wrong.{numbers_wrong}
use Rattle.settings.proofs.numbers_wrong.Statement.{statement}
use Rattle.settings.proofs.numbers_wrong.Tie as tie

returns : tie.Need-returns
unfolding numbers_wrong
returns c = refl

pub numbers_wrong_spec : {M : Type 1} → statement M
numbers_wrong_spec = tie.close (tie.spec returns)
