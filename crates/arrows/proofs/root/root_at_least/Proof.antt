-- `arrows::root::root_at_least` meets its contract.
use borrow.Author.Rules.{rules}
use mathlib.Core.Path.{◌≡◌, ◌∙◌}
use mathlib.Core.Bool.{◌||◌}
use Prim.Native.Nat.{◌*◌}
use lib.Dec.{leb}
use lib.IntN.{pos, nat_abs}
use lib.Signed.{le_z}
use mir.Facts.{to_z-of_z}
use Rattle.arrows.specs.Arrows.{root_from}
use Rattle.arrows.proofs.root.root_at_least.Statement.{statement}
use Rattle.arrows.proofs.root.root_at_least.Tie as tie

squared_requires : tie.Need-squared-requires
squared_requires c κs = search rules

returns : tie.Need-returns
unfolding root_from
returns c =
    let s = c in
    let e : c.squared.result ≡ nat_abs s.args.t * nat_abs s.args.t = c.squared.ensures ∙ search rules in
    λ i. le_z (to_z-of_z s.ranges.t i) (pos 0) || leb (e i) s.args.n

pub root_at_least_spec : {M : Type 1} → statement M
root_at_least_spec = tie.close (tie.spec squared_requires returns)
