-- How far an arc goes, and which quadrant points it crosses. 02: "End equal to start is a full circle; any other end on the start's ray sweeps nothing. .. G02 is clockwise seen with Z to the right
-- and X up. .. every quadrant point, on the circle through the start, that the arc crosses between its ends."
use Rattle.std.specs.Prelude.{Bool, true, false, cond, ◌&&◌, ◌||◌, eqb, pos, nat_abs, ◌-ℤ◌}
use Rattle.std.specs.Int.Signed.{lt_z}
use Rattle.whole.specs.Signed.{minus}
use Rattle.arrows.specs.declared.Arrow.{Arrow}
use Rattle.arrows.specs.Arrows.{dot, ahead}
use Rattle.arcs.specs.declared.Arc.{Arc}
use Rattle.arcs.specs.Arcs.{start_of, end_of}
use Rattle.sweeps.specs.declared.Sweep.{Sweep}
use Rattle.sweeps.specs.declared.Sweep.TheVariants.{Full, Nothing, Short, Long}
use Rattle.sweeps.specs.declared.Course.{Course}
use Rattle.sweeps.specs.declared.Quadrant.{Quadrant}
use Rattle.sweeps.specs.declared.Quadrant.TheVariants.{East, North, West, South}

-- ---- how far an arc goes
-- "End equal to start is a full circle"
unfoldable pub is_full : Arc → Bool
is_full a = eqb (nat_abs (a.end.x -ℤ a.start.x)) 0 && eqb (nat_abs (a.end.z -ℤ a.start.z)) 0

-- from one arrow to another, in the direction of travel: more than half a turn where the other lies behind, less where it lies ahead; where both lie on one line, "any other end on the
-- start's ray sweeps nothing", and across from it the arc is half a turn
unfoldable pub sweep : Bool → Arrow → Arrow → Sweep
sweep clockwise from to =
    cond (lt_z (ahead clockwise from to) (pos 0)) Long
    (cond (lt_z (pos 0) (ahead clockwise from to)) Short
    (cond (lt_z (pos 0) (dot from to)) Nothing Short))

unfoldable pub sweep_of : Arc → Sweep
sweep_of a = cond (is_full a) Full (sweep a.clockwise (start_of a) (end_of a))

-- an arc as it goes around its centre
unfoldable pub course_of : Arc → Course
course_of a = record { clockwise = a.clockwise; sweep = sweep_of a; from = start_of a; to = end_of a }

-- ---- the quadrant points
-- the arrow toward each
abbrev pub unit : Quadrant → Arrow
unit East = record { right = pos 1; up = pos 0 }
unit North = record { right = pos 0; up = pos 1 }
unit West = record { right = minus 1; up = pos 0 }
unit South = record { right = pos 0; up = minus 1 }

-- what lies past the start, and before the end, lies between: up to half a turn where it does both, farther where it does the one or the other
unfoldable pub between : Sweep → Bool → Bool → Bool
between Full past before = true
between Nothing past before = false
between Short past before = past && before
between Long past before = past || before

-- "that the arc crosses between its ends": past the start and before the end, on neither of their rays
unfoldable pub crosses : Course → Quadrant → Bool
crosses c k = between c.sweep (lt_z (pos 0) (ahead c.clockwise c.from (unit k))) (lt_z (pos 0) (ahead c.clockwise (unit k) c.to))
