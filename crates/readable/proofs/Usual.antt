-- The records of a run by their kinds: every record but those of an arc is of a kind from 1 to 7, and its flags are those of its kind; an arc's two records are right in their row.
-- Assumes nothing.
use mathlib.Core.Path.{◌≡◌, refl}
use mathlib.Core.Bool.{Bool, true, false, ◌&&◌}
use Prim.Native.Nat.{ℕ}
use lib.IntN.{ℤ}
use Rattle.whole.specs.Position.{in_table}
use Rattle.moves.specs.Kinds.{is_arc, is_centre, rapid, feed, thread, dwell, tool, miscellaneous, speed}
use Rattle.moves.specs.declared.Record.{Record}
use Rattle.lawful.specs.Right.{is_known, flag_of, flags_right, in_three_tables, place_right, is_right, right_from, right_row}
use Rattle.arcs.specs.Arcs.{end_record, centre_record, arc_records}
use Rattle.arcs.specs.declared.Arc.{Arc}
use Rattle.demands.proofs.DeedKinds.{OfKinds}

-- no arc and no centre, and its flags are those of its kind
abbrev pub Usual : Record → Type 0
Usual r = (is_arc r.kind ≡ false) × (is_centre r.kind ≡ false) × ((is_known r.kind && flags_right r.kind r.flags) ≡ true)

-- ---- each kind
pub rapid_usual : (x z : ℤ) → Usual (rapid x z)
unfolding flag_of
rapid_usual x z = (refl, refl, refl)

pub feed_usual : (x z : ℤ) (f : ℕ) (g95 : Bool) → Usual (feed x z f g95)
unfolding flag_of
feed_usual x z f true = (refl, refl, refl)
feed_usual x z f false = (refl, refl, refl)

pub thread_usual : (x z : ℤ) (pitch : ℕ) → Usual (thread x z pitch)
unfolding flag_of
thread_usual x z pitch = (refl, refl, refl)

pub dwell_usual : (x z : ℤ) (tenths : ℕ) → Usual (dwell x z tenths)
unfolding flag_of
dwell_usual x z tenths = (refl, refl, refl)

pub tool_usual : (x z : ℤ) (t : ℕ) → Usual (tool x z t)
unfolding flag_of
tool_usual x z t = (refl, refl, refl)

pub m_usual : (x z : ℤ) (m : ℕ) → Usual (miscellaneous x z m)
unfolding flag_of
m_usual x z m = (refl, refl, refl)

pub speed_usual : (x z : ℤ) (s : ℕ) (g96 : Bool) → Usual (speed x z s g96)
unfolding flag_of
speed_usual x z s true = (refl, refl, refl)
speed_usual x z s false = (refl, refl, refl)

-- ---- what holds of every record of a cycle, and of a straight move and a dwell
pub usual_kinds : OfKinds Usual
usual_kinds = record { rapid = rapid_usual; feed = feed_usual; thread = thread_usual; dwell = dwell_usual }

-- ---- an arc and its centre: kinds 8 or 9 and 10, one behind the other, the end in the table's range and the centre within three times it
both_true : {a b : Bool} → a ≡ true → b ≡ true → (a && b) ≡ true
both_true e f = λ i. e i && f i

module _ (a : Arc) (f : ℕ) (ex : in_table a.end.x ≡ true) (ez : in_table a.end.z ≡ true) (cx : in_three_tables a.centre.x ≡ true) (cz : in_three_tables a.centre.z ≡ true) where
  pub arc_right : (g95 : Bool) → right_row (arc_records a f g95) ≡ true
  unfolding right_from is_right place_right flag_of end_record centre_record
  arc_right g95 = go a.clockwise g95
    where
      rest : ((in_three_tables a.centre.x && in_three_tables a.centre.z) && true) ≡ true
      rest = both_true (both_true cx cz) refl

      go : (c g : Bool) → right_row (arc_records (record { clockwise = c; start = a.start; end = a.end; centre = a.centre }) f g) ≡ true
      go true true = both_true (both_true ex ez) rest
      go true false = both_true (both_true ex ez) rest
      go false true = both_true (both_true ex ez) rest
      go false false = both_true (both_true ex ez) rest
