-- Blocks as deeds, computed from the definitions, with the numbers of 01's listing; a case of each alarm; and P10.
-- Assumes nothing.
use mathlib.Core.Path.{◌≡◌, refl}
use mathlib.Core.Bool.{Bool, true, false}
use mathlib.Core.List.{List, [], ◌∷◌, ◌++◌, map}
use Prim.Native.Nat.{ℕ, ◌-◌}
use lib.IntN.{ℤ, pos, negsuc}
use lib.ListN.{replicate}
use Rattle.codes.specs.Codes.{g_code}
use Rattle.block.specs.Slots.{t_slot, d_slot, motion_slot, has, code_in, g_in}
use Rattle.state.specs.Modal.{at_start, block_motion, feed_after, due_after, settled}
use Rattle.acts.specs.Acting.{motion_by, keep}
use Rattle.codes.specs.declared.Motion.TheVariants as motion
use Rattle.block.specs.declared.Block.{Block}
use Rattle.settings.specs.declared.Span.{Span}
use Rattle.settings.specs.Limits.{outside_span, outside}
use Rattle.acts.specs.declared.Kept.{Kept}
use Rattle.acts.specs.declared.Kept.TheVariants as kept
use Rattle.arcs.specs.Arcs.{arc_of}
use Rattle.state.specs.declared.State.{State}
use Rattle.turning.specs.Turning.{too_short}
use Rattle.deeds.specs.declared.Deed.TheVariants as deed
use Rattle.scaling.specs.declared.Sending.{Sending}
use Rattle.asking.specs.declared.Asked.{Asked}
use Rattle.deeds.specs.Deed.{has_path, has_centre, straight_if, round_of, round_if, move_of, deed_of}
use Rattle.scaling.specs.Scaled.{is_facing, turning_of, groove_of}
use Rattle.asking.specs.Judge.{asks_of, alarm_of}
use Rattle.moves.specs.Kinds.{rapid, feed, thread}
use Rattle.moves.specs.declared.Record.{Record}
use Rattle.cycles.specs.declared.Cycle.TheVariants as cycle
use Rattle.deeds.specs.declared.Deed.{Deed}
use Rattle.settings.specs.declared.Limits.{Limits}

-- a block of an X and a Z word and of the first six D words, with the places of the X and the Z word
abbrev words : ℕ → ℕ → ℤ → ℤ → List ℤ → Block
words k m x z ds = record {
  value = x ∷ z ∷ replicate (d_slot 0 - 2) (pos 0) ++ ds;
  place = k ∷ m ∷ [];
  words = 8;
  late = false;
  unknown = false;
  ends = false;
  pointless = false;
}

-- from X40. Z2. to X30. Z-20., feed 120 under G95, retract 500
abbrev sent : Sending
sent = record { x = pos 40000; z = pos 2000; x_target = pos 30000; z_target = negsuc 19999; f = 120; g95 = true; retract = 500; empty_cuts = 1 }

-- D0=400 D2=100 D3=2500 as in the listing, with D4=5 D5=3000 beside them, which no block has together: each cycle takes its own
abbrev settings : List ℤ
settings = pos 400 ∷ pos 0 ∷ pos 100 ∷ pos 2500 ∷ pos 5 ∷ pos 3000 ∷ []

-- X before Z is longitudinal: "d = 2 x D3"; 02: "the X allowance is 2 x D0, longitudinal and facing"
pub alongside : deed_of (kept.Of motion.Turning) (words 2 3 (pos 30000) (negsuc 19999) settings) sent ≡
    deed.Cycle (cycle.Turning (record {
      facing = false;
      infeed = record { start = pos 40000; target = pos 30000; allowance = 800 };
      path = record { start = pos 2000; target = negsuc 19999; allowance = 100 };
      division = 5000;
      f = 120;
      g95 = true;
    }))
unfolding code_in g_in is_facing turning_of move_of deed_of
alongside = refl

-- Z before X is facing: "exchange the axes, E from Z less D2, end line from X and D0, d = D3"
pub faced : deed_of (kept.Of motion.Turning) (words 4 3 (pos 30000) (negsuc 19999) settings) sent ≡
    deed.Cycle (cycle.Turning (record {
      facing = true;
      infeed = record { start = pos 2000; target = negsuc 19999; allowance = 100 };
      path = record { start = pos 40000; target = pos 30000; allowance = 800 };
      division = 2500;
      f = 120;
      g95 = true;
    }))
unfolding code_in g_in is_facing turning_of move_of deed_of
faced = refl

-- G86 alongside: "2 x D3", "twice the retract"
pub grooved : deed_of (kept.Of motion.Grooving) (words 2 3 (pos 30000) (negsuc 19999) settings) sent ≡
    deed.Cycle (cycle.Grooving (record {
      facing = false;
      depth = record { start = pos 40000; target = pos 30000 };
      width = record { start = pos 2000; target = negsuc 19999 };
      tool = 3000;
      overlap = 100;
      piece = 5000;
      back = 1000;
      dwell = 5;
      f = 120;
      g95 = true;
    }))
unfolding code_in g_in is_facing groove_of move_of deed_of
grooved = refl

-- and facing: "tool width 2 x D5, overlap 200, depth piece D3, single retract"
pub grooved_facing : deed_of (kept.Of motion.Grooving) (words 4 3 (pos 30000) (negsuc 19999) settings) sent ≡
    deed.Cycle (cycle.Grooving (record {
      facing = true;
      depth = record { start = pos 2000; target = negsuc 19999 };
      width = record { start = pos 40000; target = pos 30000 };
      tool = 6000;
      overlap = 200;
      piece = 2500;
      back = 500;
      dwell = 5;
      f = 120;
      g95 = true;
    }))
unfolding code_in g_in is_facing groove_of move_of deed_of
grooved_facing = refl

-- "Without a path word G00, G01 and G33 make no move"; a path word with no motion function leads nowhere
pub no_path : deed_of (kept.Of motion.Feed) (words 0 0 (pos 0) (pos 0) []) sent ≡ deed.Nothing
unfolding has has_path has_centre straight_if move_of deed_of
no_path = refl

pub no_motion_lem : deed_of kept.Nothing (words 2 0 (pos 0) (pos 0) []) sent ≡ deed.Nowhere
unfolding has has_path has_centre deed_of
no_motion_lem = refl

-- 02: "I and K .. give the centre from the start, per side, missing is 0": I counts twice on the diameter. A block of the words X Z U W I K with their places
abbrev centred : List ℤ → List ℕ → Block
centred values places = record { value = values; place = places; words = 3; late = false; unknown = false; ends = false; pointless = false }

-- X30. and I-1.5
abbrev xi : Block
xi = centred (pos 30000 ∷ pos 0 ∷ pos 0 ∷ pos 0 ∷ negsuc 1499 ∷ []) (1 ∷ 0 ∷ 0 ∷ 0 ∷ 2 ∷ [])

-- I-1.5 alone
abbrev i : Block
i = centred (pos 0 ∷ pos 0 ∷ pos 0 ∷ pos 0 ∷ negsuc 1499 ∷ []) (0 ∷ 0 ∷ 0 ∷ 0 ∷ 1 ∷ [])

pub rounded : deed_of (kept.Of motion.Clockwise) xi sent ≡
    deed.Round (record {
      arc = record {
        clockwise = true;
        start = record { x = pos 40000; z = pos 2000 };
        end = record { x = pos 30000; z = negsuc 19999 };
        centre = record { x = pos 37000; z = pos 2000 };
      };
      f = 120;
      g95 = true;
    })
unfolding has has_path arc_of round_of round_if move_of deed_of
rounded = refl

-- "want a path word as G01 does": without one G02 and G03 make no move, with I or K too
pub no_arc : deed_of (kept.Of motion.Counterclockwise) i sent ≡ deed.Nothing
unfolding has has_path round_if move_of deed_of
no_arc = refl

-- "I or K .. under another kept one or none in 15", with a path word or without
pub lost : map (λ (k : Kept). deed_of k xi sent) (kept.Of motion.Rapid ∷ kept.Of motion.Feed ∷ kept.Of motion.Thread ∷ kept.Nothing ∷ []) ≡ replicate 4 deed.Nowhere
unfolding has has_path has_centre straight_if move_of deed_of
lost = refl

pub lost_alone : map (λ (k : Kept). deed_of k i sent) (kept.Of motion.Rapid ∷ kept.Of motion.Feed ∷ kept.Of motion.Thread ∷ kept.Nothing ∷ []) ≡ replicate 4 deed.Nowhere
unfolding has has_path has_centre straight_if move_of deed_of
lost_alone = refl

-- ---- the alarms
-- a span of 50 mm to either side
abbrev fifty : Span
fifty = record { lowest = negsuc 49999; highest = pos 50000 }

-- what is asked of a deed: both axes within that span, one record beside the deed's and a hundred left
abbrev asked : Bool → ℕ → ℕ → Asked
asked due f left = record { rapid_due = due; f = f; other_count = 1; room_left = left }

abbrev fifties : Limits
fifties = record { x = fifty; z = fifty }

-- a straight move
abbrev straight : Bool → ℕ → Record → Deed
straight g00 least r = deed.Straight (record { rapid = g00; least = least; goes = r })

-- 15 goes before all others
pub alarm_15 : alarm_of (asks_of deed.Nowhere fifties) (asked true 0 0) ≡ 15
unfolding outside_span outside too_short asks_of alarm_of
alarm_15 = refl

-- 16 before 17: a feed where a G00 is due, and no F
pub alarm_16 : alarm_of (asks_of (straight false 1 (feed (pos 60000) (pos 0) 0 true)) fifties) (asked true 0 0) ≡ 16
unfolding outside_span outside too_short asks_of alarm_of
alarm_16 = refl

-- 17 before 18; G33 needs 10, G01 needs 1
pub alarm_17 : alarm_of (asks_of (straight false 10 (thread (pos 60000) (pos 0) 9)) fifties) (asked false 9 0) ≡ 17
unfolding outside_span outside too_short asks_of alarm_of
alarm_17 = refl

-- 19 before 18: the infeed is not above its allowance, and the start of the cycle lies outside
pub alarm_19 : alarm_of
    (asks_of (deed.Cycle (cycle.Turning (record {
      facing = false;
      infeed = record { start = pos 60400; target = pos 60000; allowance = 400 };
      path = record { start = pos 2000; target = negsuc 19999; allowance = 100 };
      division = 5000;
      f = 120;
      g95 = true;
    }))) fifties)
    (asked false 120 0) ≡ 19
unfolding outside_span outside too_short asks_of alarm_of
alarm_19 = refl

-- 18 before 20
pub alarm_18 : alarm_of (asks_of (straight false 10 (thread (pos 60000) (pos 0) 9)) fifties) (asked false 10 0) ≡ 18
unfolding outside_span outside too_short asks_of alarm_of
alarm_18 = refl

-- a rapid where a G00 is due, one record beside it and room for one
pub alarm_20 : alarm_of (asks_of (straight true 0 (rapid (pos 0) (pos 0))) fifties) (asked true 0 1) ≡ 20
unfolding outside_span outside too_short asks_of alarm_of
alarm_20 = refl

-- and room for two
pub no_alarm : alarm_of (asks_of (straight true 0 (rapid (pos 0) (pos 0))) fifties) (asked true 0 2) ≡ 0
unfolding outside_span outside too_short asks_of alarm_of
no_alarm = refl

-- ---- P10: "T0101, then G01 X1.: alarm 16"
abbrev tool : Block
tool = record { value = replicate t_slot (pos 0) ++ pos 101 ∷ []; place = replicate t_slot 0 ++ 1 ∷ []; words = 1; late = false; unknown = false; ends = false; pointless = false }

abbrev feeding : Block
feeding = record { value = pos 1000 ∷ replicate (motion_slot - 1) (pos 0) ++ pos 1 ∷ []; place = 2 ∷ replicate (motion_slot - 1) 0 ++ 1 ∷ []; words = 2; late = false; unknown = false; ends = false; pointless = false }

-- the state in which the second block makes its move
abbrev before : State
before = settled (settled (at_start (pos 0) (pos 0)) tool) feeding

pub p10 : alarm_of (asks_of (deed_of (block_motion before.motion feeding) feeding sent) fifties) (asked before.rapid_due before.f 100) ≡ 16
unfolding has g_code code_in g_in motion_by block_motion keep due_after feed_after settled has_path has_centre move_of deed_of straight_if asks_of alarm_of
p10 = refl
