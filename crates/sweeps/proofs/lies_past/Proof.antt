-- `sweeps::lies_past` meets its contract.
use borrow.Author.Rules.{rules}
use mathlib.Core.Path.{◌≡◌, refl, ap, ◌∙◌}
use lib.IntN.{pos}
use lib.Signed.{lt_z}
use Rattle.axes.proofs.Axes.{picked}
use Rattle.arrows.specs.Arrows.{cross, ahead}
use Rattle.sweeps.specs.Sweeps.{unit}
use Rattle.arrows.specs.Known.{both}
use Rattle.sweeps.proofs.lies_past.Statement.{statement}
use Rattle.sweeps.proofs.lies_past.Tie as tie

lies_right_requires : tie.Need-lies_right-requires
lies_right_requires c κs = search rules

returns : tie.Need-returns-then-clockwise
unfolding ahead
returns c =
    let s = c in
    let e : c.lies_right.result ≡ lt_z (pos 0) (cross (unit s.args.k) (both s.args.right s.args.up)) = c.lies_right.ensures ∙ search rules in
    e ∙ ap (lt_z (pos 0)) (picked (cross (unit s.args.k) (both s.args.right s.args.up)) (cross (both s.args.right s.args.up) (unit s.args.k)) c.if-clockwise.true refl)

lies_left_requires : tie.Need-lies_left-requires
lies_left_requires c κs = search rules

returns_2 : tie.Need-returns
unfolding ahead
returns_2 c =
    let s = c in
    let e : c.lies_left.result ≡ lt_z (pos 0) (cross (both s.args.right s.args.up) (unit s.args.k)) = c.lies_left.ensures ∙ search rules in
    e ∙ ap (lt_z (pos 0)) (picked (cross (unit s.args.k) (both s.args.right s.args.up)) (cross (both s.args.right s.args.up) (unit s.args.k)) c.if-clockwise.false refl)

pub lies_past_spec : {M : Type 1} → statement M
lies_past_spec = tie.close (tie.spec lies_right_requires returns lies_left_requires returns_2)
