-- `sweeps::does_cross` meets its contract.
use borrow.Author.Rules.{rules}
use mathlib.Core.Path.{◌≡◌, ◌∙◌}
use lib.IntN.{pos}
use lib.Signed.{lt_z}
use Rattle.arrows.specs.Arrows.{ahead}
use Rattle.sweeps.specs.Sweeps.{unit, between, crosses}
use Rattle.sweeps.proofs.does_cross.Statement.{statement}
use Rattle.sweeps.proofs.does_cross.Tie as tie

past : (c : tie.After-lies_past-past) → let s = c in c.lies_past-past.result ≡ lt_z (pos 0) (ahead s.args.c.clockwise s.args.c.from (unit s.args.k))
past c = c.lies_past-past.ensures ∙ search rules

before : (c : tie.After-lies_before-before) → let s = c in c.lies_before-before.result ≡ lt_z (pos 0) (ahead s.args.c.clockwise (unit s.args.k) s.args.c.to)
before c = c.lies_before-before.ensures ∙ search rules

lies_past_requires : tie.Need-lies_past-past-requires
lies_past_requires c κs = search rules

lies_before_requires : tie.Need-lies_before-before-requires
lies_before_requires c κs = search rules

is_between_requires : tie.Need-is_between-requires
is_between_requires c κs = search rules

returns : tie.Need-returns
unfolding crosses
returns c = let s = c in c.is_between.ensures ∙ λ i. between s.args.c.sweep (past c.before.before.before.before i) (before c.before i)

pub does_cross_spec : {M : Type 1} → statement M
does_cross_spec = tie.close (tie.spec lies_past_requires lies_before_requires is_between_requires returns)
