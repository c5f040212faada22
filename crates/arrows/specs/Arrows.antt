-- Arrows from a centre, "seen with Z to the right and X up". Both parts are counted in half micrometres: an X position is a diameter, so that a micrometre of it is half a one per
-- side, and a micrometre of Z is two halves. Every length of an arc is then a whole number or the root of one, and roots are compared by their squares.
use Rattle.std.specs.Prelude.{Bool, cond, ◌&&◌, ◌||◌, ℕ, ◌+◌, ◌-◌, ◌*◌, ltb, leb, ℤ, pos, nat_abs, ◌+ℤ◌, ◌-ℤ◌, ◌*ℤ◌}
use Rattle.std.specs.Int.Signed.{le_z}
use Rattle.arrows.specs.declared.Arrow.{Arrow}

-- from the centre at cx, cz to the place x, z
abbrev pub arrow : ℤ → ℤ → ℤ → ℤ → Arrow
arrow cx cz x z = record { right = pos 2 *ℤ (z -ℤ cz); up = x -ℤ cx }

-- the square of an arrow's length
unfoldable pub square : Arrow → ℕ
square a = nat_abs a.right * nat_abs a.right + nat_abs a.up * nat_abs a.up

-- more than 0 where b lies less than half a turn counterclockwise of a, less than 0 where clockwise, 0 where both lie on one line (or one of them has no length)
unfoldable pub cross : Arrow → Arrow → ℤ
cross a b = a.right *ℤ b.up -ℤ a.up *ℤ b.right

-- more than 0 where a and b lie less than a quarter turn from each other
unfoldable pub dot : Arrow → Arrow → ℤ
dot a b = a.right *ℤ b.right +ℤ a.up *ℤ b.up

-- the same as `cross` in the direction of travel: more than 0 where b lies ahead of a by less than half a turn, less than 0 where it lies behind, 0 where both lie on one line
unfoldable pub ahead : Bool → Arrow → Arrow → ℤ
ahead clockwise a b = cond clockwise (cross b a) (cross a b)

-- ---- roots
-- "10 micrometres", and the same in half micrometres
abbrev pub tolerance : ℕ
tolerance = 10

abbrev pub slack : ℕ
slack = 2 * tolerance

-- √m > √n + 20. Where m is above n + 400: m > n + 400 + 40 √n, both sides squared; where it is not, the difference stays at 0
unfoldable pub exceeds : ℕ → ℕ → Bool
exceeds m n = ltb (4 * (slack * slack) * n) ((m - (n + slack * slack)) * (m - (n + slack * slack)))

-- √n ≤ t
unfoldable pub root_up_to : ℕ → ℤ → Bool
root_up_to n t = le_z (pos 0) t && leb n (nat_abs t * nat_abs t)

-- t ≤ √n
unfoldable pub root_from : ℕ → ℤ → Bool
root_from n t = le_z t (pos 0) || leb (nat_abs t * nat_abs t) n
