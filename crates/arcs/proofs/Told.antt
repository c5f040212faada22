-- The two records of an arc tell it, and stand as they must.
-- Assumes nothing.
use mathlib.Core.Path.{◌≡◌, refl}
use mathlib.Core.Bool.{Bool, true, false, cond, not, ◌&&◌}
use Prim.Native.Nat.{ℕ}
use lib.Dec.{eqb}
use Rattle.moves.specs.Kinds.{clockwise_kind, counterclockwise_kind, centre_kind, is_arc, in_turn}
use Rattle.arcs.specs.declared.Arc.{Arc}
use Rattle.arcs.specs.Arcs.{end_record, centre_record, arc_records}
use Rattle.arcs.specs.Told.{told_by, paired}

module _ (a : Arc) (f : ℕ) (g95 : Bool) where
  pub end_is_arc : is_arc (end_record a f g95).kind ≡ true
  unfolding end_record
  end_is_arc = go a.clockwise
    where
      go : (c : Bool) → is_arc (cond c clockwise_kind counterclockwise_kind) ≡ true
      go true = refl
      go false = refl

  pub told_back : told_by a.start.x a.start.z (end_record a f g95) (centre_record a) ≡ a
  unfolding told_by end_record centre_record
  told_back = λ i. record { clockwise = go a.clockwise i; start = a.start; end = a.end; centre = a.centre }
    where
      go : (c : Bool) → eqb (cond c clockwise_kind counterclockwise_kind) clockwise_kind ≡ c
      go true = refl
      go false = refl

  -- "10 after each 8 or 9 and nowhere else"
  pub arc_pairs : paired false (arc_records a f g95) ≡ true
  unfolding paired end_record centre_record
  arc_pairs = go a.clockwise
    where
      go : (c : Bool) → let kind = cond c clockwise_kind counterclockwise_kind in (in_turn false kind && (in_turn (is_arc kind) centre_kind && not (is_arc centre_kind))) ≡ true
      go true = refl
      go false = refl
