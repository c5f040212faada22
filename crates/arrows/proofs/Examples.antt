-- "Seen with Z to the right and X up": the four ways from a centre, and which of them lies ahead of which.
-- Assumes nothing.
use mathlib.Core.Path.{◌≡◌, refl}
use mathlib.Core.Bool.{true, false}
use lib.IntN.{pos}
use Rattle.whole.specs.Signed.{minus}
use Rattle.arrows.specs.declared.Arrow.{Arrow}
use Rattle.arrows.specs.Arrows.{arrow, square, cross, dot, ahead}

-- 3 micrometres of Z are to the right, and 6 in half micrometres; 3 of X, on the diameter, are up, and 3
abbrev right : Arrow
right = arrow (pos 1000) (pos 500) (pos 1000) (pos 503)

abbrev up : Arrow
up = arrow (pos 1000) (pos 500) (pos 1003) (pos 500)

abbrev left : Arrow
left = arrow (pos 1000) (pos 500) (pos 1000) (pos 497)

lengths : (square right ≡ 36) × (square up ≡ 9)
unfolding square
lengths = (refl, refl)

-- G03 goes from the right up and to the left, G02 from the left up and to the right
counterclockwise : (ahead false right up ≡ pos 18) × ((ahead false up left ≡ pos 18) × (ahead false left up ≡ minus 18))
unfolding cross ahead
counterclockwise = (refl, (refl, refl))

clockwise : (ahead true left up ≡ pos 18) × ((ahead true up right ≡ pos 18) × (ahead true right up ≡ minus 18))
unfolding cross ahead
clockwise = (refl, (refl, refl))

-- across from each other
opposite : (ahead true right left ≡ pos 0) × (dot right left ≡ minus 36)
unfolding cross dot ahead
opposite = (refl, refl)
