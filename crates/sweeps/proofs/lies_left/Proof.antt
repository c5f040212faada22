-- `sweeps::lies_left` meets its contract.
use borrow.Author.Rules.{rules}
use mathlib.Core.Path.{◌≡◌, sym, ap, ◌∙◌}
use lib.IntN.{pos}
use lib.Signed.{lt_z}
use mir.Facts.{to_z-of_z}
use Rattle.sweeps.specs.declared.Quadrant.{Quadrant}
use Rattle.sweeps.specs.declared.Quadrant.TheVariants.{East, North, West, South}
use Rattle.arrows.specs.Arrows.{cross}
use Rattle.sweeps.specs.Sweeps.{unit}
use Rattle.arrows.specs.Known.{both}
use Rattle.sweeps.proofs.Quadrants.{left_is}
use Rattle.sweeps.proofs.lies_left.Statement.{statement}
use Rattle.sweeps.proofs.lies_left.Tie as tie

-- where the quadrant that was tested for goes into the contract
turned : (s : tie.Start) {k : Quadrant} → s.args.k ≡ k → lt_z (pos 0) (cross (both s.args.right s.args.up) (unit k)) ≡ lt_z (pos 0) (cross (both s.args.right s.args.up) (unit s.args.k))
turned s e = ap (λ (k : Quadrant). lt_z (pos 0) (cross (both s.args.right s.args.up) (unit k))) (sym e)

enum_told : tie.Need-enum_told-1
enum_told c = search rules

enum_told_2 : tie.Need-enum_told-in-North
enum_told_2 c = search rules

enum_told_3 : tie.Need-enum_told-in-West
enum_told_3 c = search rules

enum_told_4 : tie.Need-enum_told-in-South
enum_told_4 c = search rules

returns : tie.Need-returns-in-East
returns c = let s = c in (λ i. lt_z (to_z-of_z s.ranges.up i) (pos 0)) ∙ (left_is s.args.right s.args.up East ∙ turned s.before c.in-East.is)

returns_2 : tie.Need-returns-in-North
returns_2 c = let s = c in (λ i. lt_z (pos 0) (to_z-of_z s.ranges.right i)) ∙ (left_is s.args.right s.args.up North ∙ turned s.before c.in-North.is)

returns_3 : tie.Need-returns-in-West
returns_3 c = let s = c in (λ i. lt_z (pos 0) (to_z-of_z s.ranges.up i)) ∙ (left_is s.args.right s.args.up West ∙ turned s.before c.in-West.is)

returns_4 : tie.Need-returns-in-South
returns_4 c = let s = c in (λ i. lt_z (to_z-of_z s.ranges.right i) (pos 0)) ∙ (left_is s.args.right s.args.up South ∙ turned s.before c.in-South.is)

pub lies_left_spec : {M : Type 1} → statement M
lies_left_spec =
    tie.close
    (tie.spec enum_told enum_told_2 enum_told_3 enum_told_4 returns returns_2 returns_3 returns_4)
