-- `rules::centre_wrong` meets its contract.
use mathlib.Core.Bool.{Bool, not, ◌&&◌}
use mathlib.Core.Path.{ap}
use Rattle.rules.specs.Rules.{centre_wrong}
use Rattle.rules.proofs.Ruling.{either}
use borrow.Author.Rules.{rules}
use Rattle.rules.proofs.centre_wrong.Statement.{statement}
use Rattle.rules.proofs.centre_wrong.Tie as tie

has_requires : tie.Need-has-requires
has_requires c κs = search rules

has_requires_2 : tie.Need-has-requires-2
has_requires_2 c κs = search rules

returns : tie.Need-returns
unfolding centre_wrong
returns c = ap (λ (t : Bool). not c.args.centre && t) (either c.has.ensures c.has-2.ensures)

pub centre_wrong_spec : {M : Type 1} → statement M
centre_wrong_spec = tie.close (tie.spec has_requires has_requires_2 returns)
