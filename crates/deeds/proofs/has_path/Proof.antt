-- `deeds::has_path` meets its contract.
use Rattle.deeds.specs.Deed.{has_path}
use mathlib.Core.Bool.{◌||◌}
use borrow.Author.Rules.{rules}
use Rattle.deeds.proofs.has_path.Statement.{statement}
use Rattle.deeds.proofs.has_path.Tie as tie

has_requires : tie.Need-has-requires
has_requires c κs = search rules

has_requires_2 : tie.Need-has-requires-2
has_requires_2 c κs = search rules

has_requires_3 : tie.Need-has-requires-3
has_requires_3 c κs = search rules

has_requires_4 : tie.Need-has-requires-4
has_requires_4 c κs = search rules

returns : tie.Need-returns
unfolding has_path
returns c =
    let x = c in
    λ i. (x.has.ensures i || x.has-2.ensures i) || (c.has-3.ensures i || c.has-4.ensures i)

pub has_path_spec : {M : Type 1} → statement M
has_path_spec =
    tie.close (tie.spec has_requires has_requires_2 has_requires_3 has_requires_4 returns)
