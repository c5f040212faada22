-- `sweeps::is_full` meets its contract.
use borrow.Author.Rules.{rules}
use mathlib.Core.Path.{◌≡◌, ◌∙◌}
use mathlib.Core.Bool.{◌&&◌}
use lib.Dec.{eqb}
use lib.IntN.{nat_abs, ◌-ℤ◌}
use Rattle.sweeps.specs.Sweeps.{is_full}
use Rattle.sweeps.proofs.is_full.Statement.{statement}
use Rattle.sweeps.proofs.is_full.Tie as tie

distance_requires : tie.Need-distance-requires
distance_requires c κs = search rules

distance_requires_2 : tie.Need-distance-requires-2
distance_requires_2 c κs = search rules

for_x : (c : tie.After-distance) → c.distance.result ≡ nat_abs (c.args.a.end.x -ℤ c.args.a.start.x)
for_x c = c.distance.ensures ∙ search rules

for_z : (c : tie.After-distance-2) → c.distance-2.result ≡ nat_abs (c.args.a.end.z -ℤ c.args.a.start.z)
for_z c = c.distance-2.ensures ∙ search rules

returns : tie.Need-returns
unfolding is_full
returns c = λ i. eqb (for_x c.before.before.before i) 0 && eqb (for_z c i) 0

pub is_full_spec : {M : Type 1} → statement M
is_full_spec = tie.close (tie.spec distance_requires distance_requires_2 returns)
