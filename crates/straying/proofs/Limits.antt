-- An arc and the limits: their corners, seen from the centre, fit, and where nothing strays the end lies within them, and so in the table's range.
-- Assumes nothing.
use mathlib.Core.Path.{◌≡◌}
use mathlib.Core.Bool.{true, false}
use native.Mathlib.Omega.{arith}
use lib.IntN.{ℤ}
use Rattle.whole.specs.Position.{in_table}
use Rattle.whole.proofs.Integers.{whole, lt_false}
use Rattle.whole.proofs.Positions.{in_range, in_table_lem}
use Rattle.settings.specs.Known.{SpanIn}
use Rattle.settings.specs.Limits.{outside, outside_span}
use Rattle.settings.specs.declared.Limits.{Limits}
use Rattle.settings.specs.declared.Span.{Span}
use Rattle.axes.proofs.Places.{neither}
use Rattle.axes.proofs.Reaching.{inside}
use Rattle.arrows.specs.Known.{Sized}
use Rattle.arcs.specs.declared.Arc.{Arc}
use Rattle.arcs.specs.Arcs.{radius2}
use Rattle.arcs.specs.Known.{end_reach, LimitsInReach}
use Rattle.arcs.proofs.Sizes.{bounded, sized}
use Rattle.sweeps.specs.Sweeps.{course_of}
use Rattle.straying.specs.Straying.{lows, highs, strays_somewhere, straying}

-- ---- the corners
module _ {l : Limits} {a : Arc} (f : LimitsInReach l a) where
  pub low_sized : Sized (lows l a)
  unfolding lows
  low_sized = sized (bounded end_reach end_reach a.centre.x a.centre.z l.x.lowest l.z.lowest f.low_x f.low_z) (omega arith) (omega arith)

  pub high_sized : Sized (highs l a)
  unfolding highs
  high_sized = sized (bounded end_reach end_reach a.centre.x a.centre.z l.x.highest l.z.highest f.high_x f.high_z) (omega arith) (omega arith)

-- ---- its end, where nothing strays
pub end_inside : (l : Limits) (a : Arc) → straying l a ≡ false → outside l a.end.x a.end.z ≡ false
unfolding straying
end_inside l a h = (neither (outside l a.end.x a.end.z) (strays_somewhere (lows l a) (highs l a) (radius2 a) (course_of a)) h).0

in_span : (s : Span) → SpanIn s → (v : ℤ) → outside_span s v ≡ false → in_table v ≡ true
in_span s i v e =
    let n = inside s v e in
    let low = in_range s.lowest i.lowest in
    let high = in_range s.highest i.highest in
    in_table_lem v (record { low = omega (whole, lt_false v s.lowest n.low); high = omega (whole, lt_false s.highest v n.high) })

pub end_in_table : (l : Limits) (a : Arc) → SpanIn l.x → SpanIn l.z → straying l a ≡ false → (in_table a.end.x ≡ true) × (in_table a.end.z ≡ true)
unfolding outside
end_in_table l a x z h =
    let n = neither (outside_span l.x a.end.x) (outside_span l.z a.end.z) (end_inside l a h) in
    (in_span l.x x a.end.x n.0, in_span l.z z a.end.z n.1)
