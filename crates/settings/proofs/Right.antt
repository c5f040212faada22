-- What is known where alarm 1 was not given: the table, the range of the settings, and the start.
-- Assumes nothing.
use mathlib.Core.Path.{◌≡◌, refl, subst}
use mathlib.Core.Bool.{Bool, true, false, not, ◌||◌}
use mathlib.Core.List.{List, [], ◌∷◌}
use Prim.Native.Nat.{ℕ, zero, suc}
use lib.Dec.{T, eqb}
use lib.IntN.{ℤ, pos}
use lib.ListN.{length, get_or}
use borrow.Author.Tests.{ltb-false, eqb-true, not-false}
use Rattle.whole.specs.Position.{in_table}
use Rattle.settings.specs.declared.Span.{Span}
use Rattle.settings.specs.declared.Settings.{Settings}
use Rattle.settings.specs.Points.{with_points}
use Rattle.settings.specs.Known.{Table, SpanIn, Right}
use Rattle.settings.specs.Wrong.{table_size, greatest_retract, greatest_empty_cuts, some_out, table_wrong, span_wrong, settings_wrong}

-- neither of two tests holds
or_not : (a b : Bool) → (a || b) ≡ false → (a ≡ false) × (b ≡ false)
or_not true b e = absurd (subst T e tt)
or_not false b e = (refl, e)

each_in : (t : List ℤ) → some_out t ≡ false → (i : ℕ) → in_table (get_or t i (pos 0)) ≡ true
unfolding some_out in_table
each_in [] e i = refl
each_in (z ∷ zs) e zero = not-false (in_table z) (or_not (not (in_table z)) (some_out zs) e).0
each_in (z ∷ zs) e (suc i) = each_in zs (or_not (not (in_table z)) (some_out zs) e).1 i

table_right : (t : List ℤ) → table_wrong t ≡ false → Table t
unfolding table_wrong
table_right t e =
    let d = or_not (not (eqb (length t) table_size)) (some_out t) e in
    record { size = eqb-true (length t) table_size (not-false (eqb (length t) table_size) d.0); each = each_in t d.1 }

span_right : (s : Span) (start : ℤ) → span_wrong s start ≡ false → SpanIn s × (in_table start ≡ true)
unfolding span_wrong
span_right s start e =
    let d = or_not _ _ e in
    let r = or_not _ _ d.0 in
    let o = or_not _ _ (or_not _ _ d.1).0 in
    (record { lowest = not-false (in_table s.lowest) r.0; highest = not-false (in_table s.highest) r.1 }, not-false (in_table start) o.0)

pub right : (table : List ℤ) (set : Settings) → settings_wrong table set ≡ false → Right table set
unfolding settings_wrong
right table set e =
    let d = or_not _ _ e in
    let c = or_not _ _ d.0 in
    let g = or_not _ _ c.0 in
    let s = or_not _ _ (or_not _ _ d.1).0 in
    let x = span_right set.limits.x set.x s.0 in
    let z = span_right set.limits.z set.z s.1 in
    record { offsets = table_right table g.0; range = record { retract = ltb-false greatest_retract set.retract g.1; x = x.0; z = z.0; empty_cuts = ltb-false greatest_empty_cuts set.empty_cuts c.1 }; starts = record { x = x.1; z = z.1 } }

-- whether points are asked for is no matter of it
pub right_points : (points : Bool) {table : List ℤ} {set : Settings} → Right table set → Right table (with_points points set)
right_points points h = record {
  offsets = h.offsets;
  range = record { retract = h.range.retract; x = h.range.x; z = h.range.z; empty_cuts = h.range.empty_cuts };
  starts = record { x = h.starts.x; z = h.starts.z };
}
