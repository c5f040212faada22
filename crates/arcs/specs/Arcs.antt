-- Arcs. 02: "I and K, numbers like X, give the centre from the start, per side, missing is 0; kinds 8 and 9 are as kind 2 with the end point, and a following record, kind 10, carries the
-- centre, value 0, and moves nothing. The distances of start and end from the centre may differ by at most 10 micrometres, judged exactly in whole numbers. .. Refusals: .. a zero distance or
-- unequal distances in 19".
use Rattle.std.specs.Prelude.{Bool, ◌||◌, List, [], ◌∷◌, ℕ, eqb, pos, ◌+ℤ◌, ◌*ℤ◌}
use Rattle.moves.specs.declared.Record.{Record}
use Rattle.moves.specs.Kinds.{arc, centre}
use Rattle.arrows.specs.declared.Spot.{Spot}
use Rattle.arrows.specs.declared.Arrow.{Arrow}
use Rattle.arrows.specs.Arrows.{arrow, square, exceeds}
use Rattle.arcs.specs.declared.Arc.{Arc}
use Rattle.arcs.specs.declared.CentreWords.{CentreWords}

-- the arc that a block gives: from where the axes stand to where the block sends them, I and K from the start to the centre, "per side", so that I counts twice on the diameter
unfoldable pub arc_of : Bool → Spot → Spot → CentreWords → Arc
arc_of clockwise start end words = record {
  clockwise = clockwise;
  start = start;
  end = end;
  centre = record { x = start.x +ℤ pos 2 *ℤ words.i; z = start.z +ℤ words.k };
}

-- its records: F and whether G95 is in force go with the end
unfoldable pub end_record : Arc → ℕ → Bool → Record
end_record a f g95 = arc a.clockwise a.end.x a.end.z f g95

unfoldable pub centre_record : Arc → Record
centre_record a = centre a.centre.x a.centre.z

abbrev pub arc_records : Arc → ℕ → Bool → List Record
arc_records a f g95 = end_record a f g95 ∷ centre_record a ∷ []

-- ---- start and end, seen from the centre
unfoldable pub start_of : Arc → Arrow
start_of a = arrow a.centre.x a.centre.z a.start.x a.start.z

unfoldable pub end_of : Arc → Arrow
end_of a = arrow a.centre.x a.centre.z a.end.x a.end.z

-- the square of the radius of "the circle through the start"
unfoldable pub radius2 : Arc → ℕ
radius2 a = square (start_of a)

-- ---- alarm 19: "a zero distance or unequal distances"
unfoldable pub uneven : Arc → Bool
uneven a =
    (eqb (square (start_of a)) 0 || eqb (square (end_of a)) 0)
    || (exceeds (square (start_of a)) (square (end_of a)) || exceeds (square (end_of a)) (square (start_of a)))
