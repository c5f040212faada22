-- What an arc's block does is what the promise of arcs reads off its words.
-- Assumes nothing.
use mathlib.Core.Path.{◌≡◌, refl}
use mathlib.Core.Bool.{Bool, true, false, cond}
use Prim.Native.Nat.{ℕ}
use Rattle.codes.specs.declared.Motion.TheVariants as motion
use Rattle.block.specs.declared.Block.{Block}
use Rattle.targets.specs.Target.{target_x, target_z}
use Rattle.state.specs.declared.State.{State}
use Rattle.targets.specs.declared.Pair.{Pair}
use Rattle.arcs.specs.Arcs.{arc_of}
use Rattle.scaling.specs.Wanted.{arc_wanted}
use Rattle.scaling.proofs.Wanted.{sent}
use Rattle.deeds.specs.declared.Deed.TheVariants as deed
use Rattle.deeds.specs.declared.Round.{Round}
use Rattle.deeds.specs.Deed.{has_path, round_of, round_if, move_of}

-- the arc that is wanted, with the feed in force
abbrev pub rounded : Bool → Block → State → Pair → Round
rounded clockwise b s o = record { arc = arc_wanted clockwise b s o; f = s.f; g95 = s.g95 }

-- G02 is the clockwise one
pub is_arc_wanted : (clockwise : Bool) (b : Block) (s : State) (o : Pair) (retract setting : ℕ) → has_path b ≡ true
    → move_of (cond clockwise motion.Clockwise motion.Counterclockwise) b (sent b s o retract setting) ≡ deed.Round (rounded clockwise b s o)
unfolding target_x target_z arc_of round_of round_if move_of arc_wanted
is_arc_wanted true b s o retract setting path = rw path refl
is_arc_wanted false b s o retract setting path = rw path refl
