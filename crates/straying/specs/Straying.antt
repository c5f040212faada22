-- Alarm 18 of an arc. 02: "The soft limits hold for the end and for every quadrant point, on the circle through the start, that the arc crosses between its ends. .. Refusals: .. a quadrant point
-- outside in 18."
use Rattle.std.specs.Prelude.{Bool, not, ◌&&◌, ◌||◌, ℕ, ℤ, pos, neg_ℤ}
use Rattle.std.specs.Int.Signed.{le_z}
use Rattle.settings.specs.declared.Limits.{Limits}
use Rattle.settings.specs.Limits.{outside}
use Rattle.arrows.specs.declared.Arrow.{Arrow}
use Rattle.arrows.specs.Arrows.{arrow, root_up_to, root_from}
use Rattle.arcs.specs.declared.Arc.{Arc}
use Rattle.arcs.specs.Arcs.{radius2}
use Rattle.sweeps.specs.Sweeps.{course_of, crosses}
use Rattle.sweeps.specs.declared.Course.{Course}
use Rattle.sweeps.specs.declared.Quadrant.{Quadrant}
use Rattle.sweeps.specs.declared.Quadrant.TheVariants.{East, North, West, South}

-- the corners of the limits, seen from the centre
unfoldable pub lows : Limits → Arc → Arrow
lows l a = arrow a.centre.x a.centre.z l.x.lowest l.z.lowest

unfoldable pub highs : Limits → Arc → Arrow
highs l a = arrow a.centre.x a.centre.z l.x.highest l.z.highest

-- 0 between two numbers
abbrev pub spans : ℤ → ℤ → Bool
spans low high = le_z low (pos 0) && le_z (pos 0) high

-- a root between two numbers
abbrev pub root_in : ℕ → ℤ → ℤ → Bool
root_in n low high = root_from n low && root_up_to n high

-- the quadrant point of the circle with the radius √n lies within the corners, on both axes
unfoldable pub holds : Arrow → Arrow → ℕ → Quadrant → Bool
holds low high n East = root_in n low.right high.right && spans low.up high.up
holds low high n North = root_in n low.up high.up && spans low.right high.right
holds low high n West = root_in n (neg_ℤ high.right) (neg_ℤ low.right) && spans low.up high.up
holds low high n South = root_in n (neg_ℤ high.up) (neg_ℤ low.up) && spans low.right high.right

-- a quadrant point is crossed and lies outside
unfoldable pub strays_at : Arrow → Arrow → ℕ → Course → Quadrant → Bool
strays_at low high n c k = crosses c k && not (holds low high n k)

unfoldable pub strays_somewhere : Arrow → Arrow → ℕ → Course → Bool
strays_somewhere low high n c = strays_at low high n c East || strays_at low high n c North || strays_at low high n c West || strays_at low high n c South

-- "The soft limits hold for the end and for every quadrant point, on the circle through the start, that the arc crosses between its ends"
unfoldable pub straying : Limits → Arc → Bool
straying l a = outside l a.end.x a.end.z || strays_somewhere (lows l a) (highs l a) (radius2 a) (course_of a)
