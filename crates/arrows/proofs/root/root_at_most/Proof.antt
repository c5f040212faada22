-- `arrows::root::root_at_most` meets its contract.
use borrow.Author.Rules.{rules}
use mathlib.Core.Path.{◌≡◌, ◌∙◌}
use mathlib.Core.Bool.{◌&&◌}
use Prim.Native.Nat.{◌*◌}
use lib.Dec.{leb}
use lib.IntN.{pos, nat_abs}
use lib.Signed.{le_z}
use mir.Facts.{to_z-of_z}
use Rattle.arrows.specs.Arrows.{root_up_to}
use Rattle.arrows.proofs.root.root_at_most.Statement.{statement}
use Rattle.arrows.proofs.root.root_at_most.Tie as tie

squared_requires : tie.Need-squared-requires
squared_requires c κs = search rules

returns : tie.Need-returns
unfolding root_up_to
returns c =
    let s = c in
    let e : c.squared.result ≡ nat_abs s.args.t * nat_abs s.args.t = c.squared.ensures ∙ search rules in
    λ i. le_z (pos 0) (to_z-of_z s.ranges.t i) && leb s.args.n (e i)

pub root_at_most_spec : {M : Type 1} → statement M
root_at_most_spec = tie.close (tie.spec squared_requires returns)
