-- An arc as its block gives it: its numbers are in the ranges that the functions ask for, and its centre lies within three times the table's range; its records fit their places and leave the axes at the end.
-- Assumes nothing.
use mathlib.Core.Path.{◌≡◌, refl}
use mathlib.Core.Bool.{Bool, true, false, cond}
use Prim.Native.Nat.{ℕ, ◌≤◌, ◌<◌, ◌^◌}
use native.Mathlib.Omega.{arith}
use lib.IntN.{ℤ, pos, nat_abs, ◌+ℤ◌, ◌-ℤ◌, ◌*ℤ◌}
use lib.Signed.{◌≤ℤ◌}
use mir.Syntax.{w32}
use mir.Val.{SFits}
use Rattle.whole.specs.Position.{table_least, table_greatest, in_table}
use Rattle.whole.proofs.Integers.{whole, abs, add_in, sub_in, up_mul, down_mul}
use Rattle.whole.proofs.Positions.{InTable, in_range}
use Rattle.settings.specs.Known.{SpanIn}
use Rattle.settings.specs.declared.Limits.{Limits}
use Rattle.moves.specs.declared.Record.{Record}
use Rattle.moves.specs.Form.{AllFitting}
use Rattle.moves.specs.Kinds.{clockwise_kind, counterclockwise_kind, is_centre}
use Rattle.moves.specs.Last.{last_of}
use Rattle.moves.proofs.Last.{Moves, after_move}
use Rattle.arrows.specs.declared.Spot.{Spot}
use Rattle.arcs.specs.declared.Arc.{Arc}
use Rattle.arcs.specs.declared.CentreWords.{CentreWords}
use Rattle.arcs.specs.Arcs.{arc_of, end_record, centre_record, arc_records}
use Rattle.arcs.specs.Known.{target_reach, start_reach, end_reach, InReach, LimitsInReach, Central}

-- ---- one axis: s is the start, i is I or K
module _ (s i : ℤ) (hs : InTable s) (hi : InTable i) where
  -- on X the centre lies twice I from the start, which is a diameter
  start_x_lem : nat_abs (s -ℤ (s +ℤ pos 2 *ℤ i)) ≤ start_reach
  start_x_lem =
      let c = add_in s (pos 2 *ℤ i) in let d = sub_in s (s +ℤ pos 2 *ℤ i) in let m = abs (s -ℤ (s +ℤ pos 2 *ℤ i)) in
      omega (whole, up_mul 2 i, down_mul 2 i)

  start_z_lem : nat_abs (s -ℤ (s +ℤ i)) ≤ start_reach
  start_z_lem =
      let c = add_in s i in let d = sub_in s (s +ℤ i) in let m = abs (s -ℤ (s +ℤ i)) in
      omega whole

  end_x_lem : (e : ℤ) → nat_abs (e -ℤ s) < target_reach → nat_abs (e -ℤ (s +ℤ pos 2 *ℤ i)) ≤ end_reach
  end_x_lem e h =
      let c = add_in s (pos 2 *ℤ i) in let d = sub_in e (s +ℤ pos 2 *ℤ i) in let m = abs (e -ℤ (s +ℤ pos 2 *ℤ i)) in
      omega (whole, up_mul 2 i, down_mul 2 i, sub_in e s, abs (e -ℤ s))

  end_z_lem : (e : ℤ) → nat_abs (e -ℤ s) < target_reach → nat_abs (e -ℤ (s +ℤ i)) ≤ end_reach
  end_z_lem e h =
      let c = add_in s i in let d = sub_in e (s +ℤ i) in let m = abs (e -ℤ (s +ℤ i)) in
      omega (whole, sub_in e s, abs (e -ℤ s))

  centre_x_lem : ((pos 3 *ℤ table_least) ≤ℤ (s +ℤ pos 2 *ℤ i)) × ((s +ℤ pos 2 *ℤ i) ≤ℤ (pos 3 *ℤ table_greatest))
  centre_x_lem = let c = add_in s (pos 2 *ℤ i) in (omega (whole, up_mul 2 i, down_mul 2 i), omega (whole, up_mul 2 i, down_mul 2 i))

  centre_z_lem : ((pos 3 *ℤ table_least) ≤ℤ (s +ℤ i)) × ((s +ℤ i) ≤ℤ (pos 3 *ℤ table_greatest))
  centre_z_lem = let c = add_in s i in (omega whole, omega whole)

-- a place of the table lies near every other
near_table : (s e : ℤ) → InTable s → InTable e → nat_abs (e -ℤ s) < target_reach
near_table s e h k = omega (whole, sub_in e s, abs (e -ℤ s))

-- ---- an arc
module _ (clockwise : Bool) (start end : Spot) (words : CentreWords) (h : Central start words) where
  -- that the block sends no axis so far
  pub in_reach : nat_abs (end.x -ℤ start.x) < target_reach → nat_abs (end.z -ℤ start.z) < target_reach → InReach (arc_of clockwise start end words)
  unfolding arc_of
  in_reach x z =
      let sx = in_range start.x h.x in
      let sz = in_range start.z h.z in
      let i = in_range words.i h.i in
      let k = in_range words.k h.k in
      record {
        start_x = start_x_lem start.x words.i sx i;
        start_z = start_z_lem start.z words.k sz k;
        end_x = end_x_lem start.x words.i sx i end.x x;
        end_z = end_z_lem start.z words.k sz k end.z z;
      }

  limit_x : (b : ℤ) → in_table b ≡ true → nat_abs (b -ℤ (start.x +ℤ pos 2 *ℤ words.i)) ≤ end_reach
  limit_x b t = let s = in_range start.x h.x in end_x_lem start.x words.i s (in_range words.i h.i) b (near_table start.x b s (in_range b t))

  limit_z : (b : ℤ) → in_table b ≡ true → nat_abs (b -ℤ (start.z +ℤ words.k)) ≤ end_reach
  limit_z b t = let s = in_range start.z h.z in end_z_lem start.z words.k s (in_range words.k h.k) b (near_table start.z b s (in_range b t))

  pub limits_in_reach : (l : Limits) → SpanIn l.x → SpanIn l.z → LimitsInReach l (arc_of clockwise start end words)
  unfolding arc_of
  limits_in_reach l x z = record {
    low_x = limit_x l.x.lowest x.lowest;
    high_x = limit_x l.x.highest x.highest;
    low_z = limit_z l.z.lowest z.lowest;
    high_z = limit_z l.z.highest z.highest;
  }

  -- 02, request 6: "a centre's within three times it"
  pub centre_in_x : let c = (arc_of clockwise start end words).centre.x in ((pos 3 *ℤ table_least) ≤ℤ c) × (c ≤ℤ (pos 3 *ℤ table_greatest))
  unfolding arc_of
  centre_in_x = centre_x_lem start.x words.i (in_range start.x h.x) (in_range words.i h.i)

  pub centre_in_z : let c = (arc_of clockwise start end words).centre.z in ((pos 3 *ℤ table_least) ≤ℤ c) × (c ≤ℤ (pos 3 *ℤ table_greatest))
  unfolding arc_of
  centre_in_z = centre_z_lem start.z words.k (in_range start.z h.z) (in_range words.k h.k)

-- ---- its records
-- of a centre that fits, as every centre in three times the table's range does
pub fits_three : {c : ℤ} → ((pos 3 *ℤ table_least) ≤ℤ c) × (c ≤ℤ (pos 3 *ℤ table_greatest)) → SFits w32 c
fits_three {c} h = let a = h.0 in let b = h.1 in omega whole

module _ (a : Arc) (f : ℕ) (g95 : Bool) where
  pub arc_fitting : SFits w32 a.end.x → SFits w32 a.end.z → SFits w32 a.centre.x → SFits w32 a.centre.z → f < 2 ^ 32 → AllFitting (arc_records a f g95)
  unfolding end_record centre_record
  arc_fitting ex ez cx cz v = (
    record { kind = either a.clockwise (omega arith) (omega arith); flags = either g95 (omega arith) (omega arith); x = ex; z = ez; value = v },
    (record { kind = omega arith; flags = omega arith; x = cx; z = cz; value = omega arith }, tt),
  )
    where
      either : (t : Bool) {m n : ℕ} → m < 2 ^ 8 → n < 2 ^ 8 → cond t m n < 2 ^ 8
      either true h k = h
      either false h k = k

  pub end_moves : Moves (end_record a f g95)
  unfolding end_record
  end_moves = go a.clockwise
    where
      go : (c : Bool) → is_centre (cond c clockwise_kind counterclockwise_kind) ≡ false
      go true = refl
      go false = refl

  -- they leave the axes at the end: on the coordinate g of a record
  pub arc_last : (g : Record → ℤ) (y : ℤ) → last_of g y (arc_records a f g95) ≡ g (end_record a f g95)
  unfolding centre_record
  arc_last g y = after_move g (end_record a f g95) y end_moves
