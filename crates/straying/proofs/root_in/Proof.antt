-- `straying::root_in` meets its contract.
use borrow.Author.Rules.{rules}
use mathlib.Core.Path.{◌∙◌}
use mathlib.Core.Bool.{◌&&◌}
use mir.Facts.{to_z-of_z}
use Rattle.arrows.specs.Arrows.{root_from, root_up_to}
use Rattle.straying.proofs.root_in.Statement.{statement}
use Rattle.straying.proofs.root_in.Tie as tie

root_at_least_requires : tie.Need-root_at_least-requires
root_at_least_requires c κs = search rules

root_at_most_requires : tie.Need-root_at_most-requires
root_at_most_requires c κs = search rules

returns : tie.Need-returns
returns c =
    let s = c in
    (λ i. c.root_at_least.ensures i && c.root_at_most.ensures i)
    ∙ λ i. root_from s.args.n (to_z-of_z s.ranges.low i) && root_up_to s.args.n (to_z-of_z s.ranges.high i)

pub root_in_spec : {M : Type 1} → statement M
root_in_spec = tie.close (tie.spec root_at_least_requires root_at_most_requires returns)
