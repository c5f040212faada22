-- 01: "Without a path word G00, G01 and G33 make no move. A move to the present point is still a record." The numbers of a cycle are given by scaling/specs/Scaled.antt.
-- 02, G02 and G03: "I and K, numbers like X, give the centre from the start, per side, missing is 0 .. G02 and G03 are kept, need F and want a path word as G01 does .. I or K .. under another kept one or none in 15".
use Rattle.std.specs.Prelude.{Bool, true, false, cond, ◌||◌, ℕ}
use Rattle.block.specs.Slots.{has, x_slot, z_slot, u_slot, w_slot, i_slot, k_slot}
use Rattle.codes.specs.declared.Motion.{Motion}
use Rattle.codes.specs.declared.Motion.TheVariants as motion
use Rattle.block.specs.declared.Block.{Block}
use Rattle.targets.specs.Target.{word_in}
use Rattle.arcs.specs.Arcs.{arc_of}
use Rattle.arrows.specs.declared.Spot.{Spot}
use Rattle.arcs.specs.declared.CentreWords.{CentreWords}
use Rattle.acts.specs.declared.Kept.{Kept}
use Rattle.acts.specs.declared.Kept.TheVariants as kept
use Rattle.moves.specs.Kinds.{rapid, feed, thread, dwell}
use Rattle.moves.specs.declared.Record.{Record}
use Rattle.cycles.specs.Feeds.{least_of_feed, least_of_pitch}
use Rattle.cycles.specs.declared.Cycle.TheVariants as cycle
use Rattle.scaling.specs.Scaled.{d_word, turning_of, thread_of, groove_of, bore_of}
use Rattle.scaling.specs.declared.Sending.{Sending}
use Rattle.deeds.specs.declared.Deed.{Deed}
use Rattle.deeds.specs.declared.Deed.TheVariants as deed
use Rattle.deeds.specs.declared.Round.{Round}

-- a path word: X U Z W
unfoldable pub has_path : Block → Bool
has_path b = (has b x_slot || has b u_slot) || (has b z_slot || has b w_slot)

-- a word of the centre: I K
unfoldable pub has_centre : Block → Bool
has_centre b = has b i_slot || has b k_slot

-- a straight move, where there is a path word: whether it is a G00, the least F that it takes (0 where none is asked for), and its record. 02: "I or K .. under another kept one .. in 15"
unfoldable pub straight_if : Block → Bool → ℕ → Record → Deed
straight_if b g00 least r = cond (has_centre b) deed.Nowhere (cond (has_path b) (deed.Straight (record { rapid = g00; least = least; goes = r })) deed.Nothing)

-- where the axes stand, where the block sends them, and its I and K
abbrev pub start_spot : Sending → Spot
start_spot s = record { x = s.x; z = s.z }

abbrev pub end_spot : Sending → Spot
end_spot s = record { x = s.x_target; z = s.z_target }

abbrev pub centre_words : Block → CentreWords
centre_words b = record { i = word_in b i_slot; k = word_in b k_slot }

-- G02, and G03 where it is not clockwise, to the block's targets: "I and K .. give the centre from the start, per side, missing is 0"
unfoldable pub round_of : Bool → Block → Sending → Round
round_of clockwise b s = record { arc = arc_of clockwise (start_spot s) (end_spot s) (centre_words b); f = s.f; g95 = s.g95 }

-- "want a path word as G01 does"
unfoldable pub round_if : Bool → Block → Sending → Deed
round_if clockwise b s = cond (has_path b) (deed.Round (round_of clockwise b s)) deed.Nothing

-- the deed of a motion; "Without a path word G00, G01 and G33 make no move"; "A move by G01 .. needs 1 to 9999, by G33 10 to 9999"
unfoldable pub move_of : Motion → Block → Sending → Deed
move_of motion.Rapid b s = straight_if b true 0 (rapid s.x_target s.z_target)
move_of motion.Feed b s = straight_if b false least_of_feed (feed s.x_target s.z_target s.f s.g95)
move_of motion.Clockwise b s = round_if true b s
move_of motion.Counterclockwise b s = round_if false b s
move_of motion.Thread b s = straight_if b false least_of_pitch (thread s.x_target s.z_target s.f)
move_of motion.Dwell b s = deed.Dwell (dwell s.x s.z (d_word b 4))
move_of motion.Turning b s = deed.Cycle (cycle.Turning (turning_of b s))
move_of motion.Threading b s = deed.Cycle (cycle.Threading (thread_of b s))
move_of motion.Grooving b s = deed.Cycle (cycle.Grooving (groove_of b s))
move_of motion.ChipBreaking b s = deed.Cycle (cycle.Drilling (bore_of false b s))
move_of motion.Redrawing b s = deed.Cycle (cycle.Drilling (bore_of true b s))

-- the deed of a block, of its own motion (`block_motion`) and not of the one it leaves kept; "I or K .. under .. none in 15"
unfoldable pub deed_of : Kept → Block → Sending → Deed
deed_of (kept.Of m) b s = move_of m b s
deed_of kept.Nothing b s = cond (has_path b || has_centre b) deed.Nowhere deed.Nothing
