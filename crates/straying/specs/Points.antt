-- The places of an arc, given by fractions, and what 02 promises of them: "each point of the arc on that circle, its place given by fractions, then stays within the limits widened
-- by 10 micrometres per side". What a point of the arc is, is said here by the centre, the circle and the direction of travel, and not by the sweep that the test of alarm 18 asks.
use Rattle.std.specs.Prelude.{◌≡◌, Bool, true, false, cond, ◌&&◌, ◌||◌, ℕ, ◌*◌, ◌<◌, ltb, eqb, ℤ, pos, ◌+ℤ◌, ◌-ℤ◌, ◌*ℤ◌, ◌≤ℤ◌}
use Rattle.std.specs.Int.Signed.{lt_z, le_z}
use Rattle.settings.specs.declared.Limits.{Limits}
use Rattle.settings.specs.Limits.{outside}
use Rattle.arcs.specs.declared.Arc.{Arc}
use Rattle.arrows.specs.declared.Arrow.{Arrow}
use Rattle.arrows.specs.Arrows.{arrow, square, dot, ahead, tolerance}
use Rattle.arcs.specs.Arcs.{start_of, end_of, radius2, uneven}
use Rattle.sweeps.specs.Sweeps.{is_full}
use Rattle.straying.specs.Straying.{straying}

-- ---- a point of an arc
-- the arrow from the centre to the place x/q, z/q, q times as long; x/q is a diameter, as every X position
abbrev pub towards : Arc → ℕ → ℤ → ℤ → Arrow
towards a q x z = arrow (pos q *ℤ a.centre.x) (pos q *ℤ a.centre.z) x z

-- once round from the arrow s, in the direction of travel: 0 on its ray, 1 before half a turn, 2 at half a turn, 3 behind it
unfoldable pub stage : Bool → Arrow → Arrow → ℕ
stage clockwise s p = cond (lt_z (pos 0) (ahead clockwise s p)) 1 (cond (lt_z (ahead clockwise s p) (pos 0)) 3 (cond (lt_z (pos 0) (dot s p)) 0 2))

-- on the way from s, p comes before e or with it: at an earlier stage, or at the same one and e is not behind it
unfoldable pub no_later : Bool → Arrow → Arrow → Arrow → Bool
no_later clockwise s e p = ltb (stage clockwise s p) (stage clockwise s e) || (eqb (stage clockwise s p) (stage clockwise s e) && le_z (pos 0) (ahead clockwise p e))

-- the place x/q, z/q is a point of the arc: as far from the centre as the start, and on the way from the start no later than the end, or anywhere on a full circle
pub record OnArc (a : Arc) (q : ℕ) (x z : ℤ) : Type 0 where
  pub some : 0 < q
  pub circle : square (towards a q x z) ≡ q * q * radius2 a
  pub way : (is_full a || no_later a.clockwise (start_of a) (end_of a) (towards a q x z)) ≡ true

-- ---- the promise
-- the place x/q, z/q lies within the limits widened by 10 micrometres per side, on X, a diameter, by twice that
pub record Widened (l : Limits) (q : ℕ) (x z : ℤ) : Type 0 where
  pub low_x : (pos q *ℤ (l.x.lowest -ℤ pos (2 * tolerance))) ≤ℤ x
  pub high_x : x ≤ℤ (pos q *ℤ (l.x.highest +ℤ pos (2 * tolerance)))
  pub low_z : (pos q *ℤ (l.z.lowest -ℤ pos tolerance)) ≤ℤ z
  pub high_z : z ≤ℤ (pos q *ℤ (l.z.highest +ℤ pos tolerance))

-- an arc that no test refuses, from a start within the limits
pub record Passed (l : Limits) (a : Arc) : Type 0 where
  pub start : outside l a.start.x a.start.z ≡ false
  pub even : uneven a ≡ false
  pub stays : straying l a ≡ false

abbrev pub Stays : Type 0
Stays = (l : Limits) (a : Arc) → Passed l a → (q : ℕ) (x z : ℤ) → OnArc a q x z → Widened l q x z
