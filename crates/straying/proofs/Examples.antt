-- 02's arcs and the manual's, computed from the definitions.
-- Assumes nothing.
use mathlib.Core.Path.{◌≡◌, refl, sym}
use mathlib.Core.Bool.{Bool, true, false, true≢false}
use native.Mathlib.Omega.{arith}
use lib.IntN.{ℤ, pos}
use Rattle.whole.specs.Signed.{minus}
use Rattle.settings.specs.declared.Limits.{Limits}
use Rattle.settings.specs.Limits.{outside_span, outside}
use Rattle.moves.specs.Kinds.{arc, centre}
use Rattle.arrows.specs.Arrows.{square, cross, dot, ahead, exceeds, root_up_to, root_from}
use Rattle.arrows.specs.declared.Spot.{Spot}
use Rattle.arcs.specs.declared.Arc.{Arc}
use Rattle.sweeps.specs.declared.Sweep.TheVariants.{Full, Nothing, Short, Long}
use Rattle.sweeps.specs.declared.Quadrant.TheVariants.{East, North, West, South}
use Rattle.arcs.specs.Arcs.{arc_of, end_record, centre_record, start_of, end_of, radius2, uneven}
use Rattle.sweeps.specs.Sweeps.{sweep, is_full, sweep_of, course_of, between, crosses}
use Rattle.straying.specs.Straying.{lows, highs, holds, strays_at, strays_somewhere, straying}
use Rattle.straying.specs.Points.{stage, no_later, OnArc}

abbrev spot : ℤ → ℤ → Spot
spot x z = record { x = x; z = z }

-- an arc from one place to another, with I and K
abbrev G02 : Spot → Spot → ℤ → ℤ → Arc
G02 start end i k = arc_of true start end (record { i = i; k = k })

abbrev G03 : Spot → Spot → ℤ → ℤ → Arc
G03 start end i k = arc_of false start end (record { i = i; k = k })

-- limits on X and on Z
abbrev limits : ℤ → ℤ → ℤ → ℤ → Limits
limits low_x high_x low_z high_z = record { x = record { lowest = low_x; highest = high_x }; z = record { lowest = low_z; highest = high_z } }

-- which quadrant points an arc crosses
record Crosses (a : Arc) (east north west south : Bool) : Type 0 where
  at_east : crosses (course_of a) East ≡ east
  at_north : crosses (course_of a) North ≡ north
  at_west : crosses (course_of a) West ≡ west
  at_south : crosses (course_of a) South ≡ south

-- ---- from X20. Z-30., `G02 X40. Z-40. I10.`: a quarter circle from below its centre to its left
abbrev quarter : Arc
quarter = G02 (spot (pos 20000) (minus 30000)) (spot (pos 40000) (minus 40000)) (pos 10000) (pos 0)

-- I counts twice on the diameter, K once
quarter_centre : (quarter.centre.x ≡ pos 40000) × (quarter.centre.z ≡ minus 30000)
unfolding arc_of
quarter_centre = (refl, refl)

quarter_records : (end_record quarter 150 true ≡ arc true (pos 40000) (minus 40000) 150 true) × (centre_record quarter ≡ centre (pos 40000) (minus 30000))
unfolding arc_of end_record centre_record
quarter_records = (refl, refl)

quarter_even : uneven quarter ≡ false
unfolding arc_of square exceeds start_of end_of uneven
quarter_even = refl

quarter_sweep : sweep_of quarter ≡ Short
unfolding arc_of cross dot ahead start_of end_of sweep is_full sweep_of
quarter_sweep = refl

quarter_crosses : Crosses quarter false false false false
unfolding arc_of cross dot ahead start_of end_of sweep is_full sweep_of course_of between crosses
quarter_crosses = record { at_east = refl; at_north = refl; at_west = refl; at_south = refl }

-- the same by G03: three quarters, and the two quadrant points between
abbrev three_quarters : Arc
three_quarters = G03 (spot (pos 20000) (minus 30000)) (spot (pos 40000) (minus 40000)) (pos 10000) (pos 0)

three_quarters_sweep : sweep_of three_quarters ≡ Long
unfolding arc_of cross dot ahead start_of end_of sweep is_full sweep_of
three_quarters_sweep = refl

three_quarters_cross : Crosses three_quarters true true false false
unfolding arc_of cross dot ahead start_of end_of sweep is_full sweep_of course_of between crosses
three_quarters_cross = record { at_east = refl; at_north = refl; at_west = refl; at_south = refl }

-- ---- from X28. Z-40., `G03 X40. Z-46. K-6.`: a quarter circle from the right of its centre to above it; K moves the centre on Z alone
abbrev rounded : ℤ → Arc
rounded x = G03 (spot (pos 28000) (minus 40000)) (spot x (minus 46000)) (pos 0) (minus 6000)

rounded_centre : ((rounded (pos 40000)).centre.x ≡ pos 28000) × ((rounded (pos 40000)).centre.z ≡ minus 46000)
unfolding arc_of
rounded_centre = (refl, refl)

rounded_crosses : Crosses (rounded (pos 40000)) false false false false
unfolding arc_of cross dot ahead start_of end_of sweep is_full sweep_of course_of between crosses
rounded_crosses = record { at_east = refl; at_north = refl; at_west = refl; at_south = refl }

-- ---- from X40. Z-25., `G02 W-18.330 I20. K-9.165`: it passes below its centre, at X 36000.13
abbrev hollow : Arc
hollow = G02 (spot (pos 40000) (minus 25000)) (spot (pos 40000) (minus 43330)) (pos 20000) (minus 9165)

hollow_crosses : Crosses hollow false false false true
unfolding arc_of cross dot ahead start_of end_of sweep is_full sweep_of course_of between crosses
hollow_crosses = record { at_east = refl; at_north = refl; at_west = refl; at_south = refl }

hollow_limits : (straying (limits (pos 36000) (pos 200000) (minus 100000) (pos 50000)) hollow ≡ false) × (straying (limits (pos 36001) (pos 200000) (minus 100000) (pos 50000)) hollow ≡ true)
unfolding arc_of square cross dot ahead exceeds root_up_to root_from start_of end_of radius2 sweep is_full sweep_of course_of between crosses lows highs holds strays_at strays_somewhere straying outside_span outside
hollow_limits = (refl, refl)

-- ---- half a turn, from X20. Z0 to X0, I-5.: G02 passes to the right of its centre, G03 to its left, each 5 mm; a quadrant point on the limit is within
abbrev half : Bool → Arc
half clockwise = arc_of clockwise (spot (pos 20000) (pos 0)) (spot (pos 0) (pos 0)) (record { i = minus 5000; k = pos 0 })

half_crosses : Crosses (half true) true false false false × Crosses (half false) false false true false
unfolding arc_of cross dot ahead start_of end_of sweep is_full sweep_of course_of between crosses
half_crosses = (record { at_east = refl; at_north = refl; at_west = refl; at_south = refl }, record { at_east = refl; at_north = refl; at_west = refl; at_south = refl })

abbrev up_to : ℤ → Limits
up_to z = limits (pos 0) (pos 20000) (minus 100) z

abbrev down_to : ℤ → Limits
down_to z = limits (pos 0) (pos 20000) z (pos 100)

half_limits : (straying (up_to (pos 5000)) (half true) ≡ false)
    × ((straying (up_to (pos 4999)) (half true) ≡ true) × ((straying (down_to (minus 5000)) (half false) ≡ false) × (straying (down_to (minus 4999)) (half false) ≡ true)))
unfolding arc_of square cross dot ahead exceeds root_up_to root_from start_of end_of radius2 sweep is_full sweep_of course_of between crosses lows highs holds strays_at strays_somewhere straying outside_span outside
half_limits = (refl, (refl, (refl, refl)))

-- ---- an end above the centre, five micrometres within the circle: asked as the end that it is, at X 39990, and not as the quadrant point, at X 40000
abbrev up_to_39990 : Limits
up_to_39990 = limits (pos 0) (pos 39990) (minus 100000) (pos 50000)

within_even : uneven (rounded (pos 39990)) ≡ false
unfolding arc_of square exceeds start_of end_of uneven
within_even = refl

within_stays : straying up_to_39990 (rounded (pos 39990)) ≡ false
unfolding arc_of square cross dot ahead exceeds root_up_to root_from start_of end_of radius2 sweep is_full sweep_of course_of between crosses lows highs holds strays_at strays_somewhere straying outside_span outside
within_stays = refl

-- the place on the circle above that end: a point of the arc, beyond the limit and within the widened one
within_top : OnArc (rounded (pos 39990)) 1 (pos 40000) (minus 46000) × (outside up_to_39990 (pos 40000) (minus 46000) ≡ true)
unfolding arc_of square cross dot ahead start_of end_of radius2 is_full stage no_later outside_span outside
within_top = (record { some = omega arith; circle = refl; way = refl }, refl)

-- ---- from X60. Z50., `G03 X62.020 W-1. K-1.`: exactly 10 micrometres apart is good, half a micrometre more is not, either way
abbrev apart : ℤ → Arc
apart x = G03 (spot (pos 60000) (pos 50000)) (spot x (pos 49000)) (pos 0) (minus 1000)

apart_by : (uneven (apart (pos 62020)) ≡ false) × ((uneven (apart (pos 62021)) ≡ true) × ((uneven (apart (pos 61980)) ≡ false) × (uneven (apart (pos 61979)) ≡ true)))
unfolding arc_of square exceeds start_of end_of uneven
apart_by = (refl, (refl, (refl, refl)))

-- an X of odd micrometres stands on half a one per side
odd_start : uneven (G03 (spot (pos 60001) (pos 50000)) (spot (pos 62021) (pos 49000)) (pos 0) (minus 1000)) ≡ false
unfolding arc_of square exceeds start_of end_of uneven
odd_start = refl

-- a zero distance, of the start and of the end; 5 and half a micrometre are near enough
distances : (uneven (G02 (spot (pos 60000) (pos 50000)) (spot (pos 60000) (pos 50000)) (pos 0) (pos 0)) ≡ true)
    × ((uneven (G02 (spot (pos 60000) (pos 50000)) (spot (pos 60000) (pos 49000)) (pos 0) (minus 1000)) ≡ true)
    × (uneven (G02 (spot (pos 60000) (pos 50000)) (spot (pos 60001) (pos 49995)) (pos 0) (minus 5)) ≡ false))
unfolding arc_of square exceeds start_of end_of uneven
distances = (refl, (refl, refl))

-- ---- a full circle crosses all four; any other end on the start's ray sweeps nothing
abbrev ring : ℤ → Arc
ring x = G02 (spot (pos 28000) (minus 40000)) (spot x (minus 40000)) (minus 6000) (pos 0)

ring_sweeps : (sweep_of (ring (pos 28000)) ≡ Full) × (sweep_of (ring (pos 28001)) ≡ Nothing)
unfolding arc_of cross dot ahead start_of end_of sweep is_full sweep_of
ring_sweeps = (refl, refl)

ring_crosses : Crosses (ring (pos 28000)) true true true true × Crosses (ring (pos 28001)) false false false false
unfolding arc_of cross dot ahead start_of end_of sweep is_full sweep_of course_of between crosses
ring_crosses = (record { at_east = refl; at_north = refl; at_west = refl; at_south = refl }, record { at_east = refl; at_north = refl; at_west = refl; at_south = refl })

-- ---- places of arcs
-- across from the start of a full circle; and at the start alone where nothing is swept
ring_places : OnArc (ring (pos 28000)) 1 (pos 4000) (minus 40000) × (OnArc (ring (pos 28001)) 1 (pos 28000) (minus 40000) × (OnArc (ring (pos 28001)) 1 (pos 4000) (minus 40000) → ⊥))
unfolding arc_of square cross dot ahead start_of end_of radius2 is_full stage no_later
ring_places = (record { some = omega arith; circle = refl; way = refl }, (record { some = omega arith; circle = refl; way = refl }, λ o. true≢false (sym o.way)))

-- above the centre: a place of the three quarters, and not of the quarter
above : OnArc three_quarters 1 (pos 60000) (minus 30000) × (OnArc quarter 1 (pos 60000) (minus 30000) → ⊥)
unfolding arc_of square cross dot ahead start_of end_of radius2 is_full stage no_later
above = (record { some = omega arith; circle = refl; way = refl }, λ o. true≢false (sym o.way))

-- between the ends of `rounded`, no whole number of micrometres: 5/13 and 12/13 of the radius from the centre
thirteenths : OnArc (rounded (pos 40000)) 13 (pos 424000) (minus 526000)
unfolding arc_of square cross dot ahead start_of end_of radius2 is_full stage no_later
thirteenths = record { some = omega arith; circle = refl; way = refl }
