-- The kinds of the records of a deed: what holds of every rapid, feed, thread and dwell holds of every record of a cycle, and of a straight move and a dwell. An arc's records are told by the deed itself.
-- Assumes nothing.
use mathlib.Core.Path.{◌≡◌}
use mathlib.Core.Bool.{Bool, true, false, cond, ◌||◌}
use mathlib.Core.List.{List, [], ◌∷◌}
use Prim.Native.Nat.{ℕ}
use lib.IntN.{ℤ, ◌+ℤ◌}
use Rattle.whole.specs.Signed.{along}
use Rattle.whole.specs.declared.Side.{Side}
use Rattle.moves.specs.Kinds.{rapid, feed, thread, dwell}
use Rattle.moves.specs.declared.Record.{Record}
use Rattle.codes.specs.declared.Motion.TheVariants as motion
use Rattle.acts.specs.declared.Kept.{Kept}
use Rattle.acts.specs.declared.Kept.TheVariants as kept
use Rattle.block.specs.declared.Block.{Block}
use Rattle.axes.specs.Goes.{rapid_to, feed_to, thread_to, dwell_at}
use Rattle.turning.specs.Turning as turn
use Rattle.turning.specs.declared.Turning as turns
use Rattle.turning.specs.declared.Pass as passes
use Rattle.threading.specs.Threading as thread_of
use Rattle.threading.specs.declared.Thread.{Thread}
use Rattle.threading.specs.declared.Pass as thread_passes
use Rattle.grooving.specs.Grooving as groove
use Rattle.grooving.specs.declared.Groove.{Groove}
use Rattle.grooving.proofs.Each.{grooving_every}
use Rattle.axes.proofs.Every.{Every}
use Rattle.drilling.specs.Drilling as drill
use Rattle.drilling.specs.declared.Bore.{Bore}
use Rattle.drilling.proofs.Each.{drilling_every}
use Rattle.cycles.specs.Cycle.{wrong, records}
use Rattle.cycles.specs.declared.Cycle.{Cycle}
use Rattle.cycles.specs.declared.Cycle.TheVariants as cycle
use Rattle.deeds.specs.Deed.{has_path, has_centre, straight_if, round_if, move_of, deed_of}
use Rattle.scaling.specs.Scaled.{d_word}
use Rattle.deeds.specs.declared.Deed.{Deed}
use Rattle.deeds.specs.declared.Deed.TheVariants as deed
use Rattle.scaling.specs.declared.Sending.{Sending}

-- what holds of every record of these kinds
pub record OfKinds (P : Record → Type 0) : Type 0 where
  pub rapid : (x z : ℤ) → P (rapid x z)
  pub feed : (x z : ℤ) (f : ℕ) (g95 : Bool) → P (feed x z f g95)
  pub thread : (x z : ℤ) (pitch : ℕ) → P (thread x z pitch)
  pub dwell : (x z : ℤ) (tenths : ℕ) → P (dwell x z tenths)

-- what is told by the deed itself: of a dwell and a straight move
abbrev pub Told : (Record → Type 0) → Deed → Type 0
Told P deed.Nothing = Unit {0}
Told P deed.Nowhere = Unit {0}
Told P (deed.Dwell r) = P r
Told P (deed.Straight m) = P m.goes
Told P (deed.Round r) = Unit {0}
Told P (deed.Cycle c) = Unit {0}

module _ (P : Record → Type 0) (h : OfKinds P) where
  -- ---- the records of cycles, on either axis
  rapid_to_lem : (facing : Bool) (i a : ℤ) → P (rapid_to facing i a)
  unfolding rapid_to
  rapid_to_lem true i a = h.rapid a i
  rapid_to_lem false i a = h.rapid i a

  feed_to_lem : (facing : Bool) (f : ℕ) (g95 : Bool) (i a : ℤ) → P (feed_to facing f g95 i a)
  unfolding feed_to
  feed_to_lem true f g95 i a = h.feed a i f g95
  feed_to_lem false f g95 i a = h.feed i a f g95

  thread_to_lem : (facing : Bool) (pitch : ℕ) (i a : ℤ) → P (thread_to facing pitch i a)
  unfolding thread_to
  thread_to_lem true pitch i a = h.thread a i pitch
  thread_to_lem false pitch i a = h.thread i a pitch

  dwell_at_lem : (facing : Bool) (tenths : ℕ) (i a : ℤ) → P (dwell_at facing tenths i a)
  unfolding dwell_at
  dwell_at_lem true tenths i a = h.dwell a i tenths
  dwell_at_lem false tenths i a = h.dwell i a tenths

  -- ---- each cycle
  turn_passes : (p : passes.Pass) (s : Side) (l : ℤ) (ds : List ℕ) → Every P (turn.passes (turn.pass_on p) s l ds)
  unfolding turn.passes turn.pass_on
  turn_passes p s l [] = tt
  turn_passes p s l (d ∷ ds) =
      let m : ℤ = l +ℤ along s d in
      (rapid_to_lem p.facing m p.home, (feed_to_lem p.facing p.f p.g95 m p.end, (feed_to_lem p.facing p.f p.g95 p.from p.end, (rapid_to_lem p.facing p.from p.home, turn_passes p s m ds))))

  turning_each : (c : turns.Turning) → Every P (turn.turning c)
  unfolding turn.turning
  turning_each c = turn_passes (turn.pass_for c) _ c.infeed.start (turn.row c)

  thread_passes_each : (p : thread_passes.Pass) (ls : List ℤ) → Every P (thread_of.passes p ls)
  unfolding thread_of.passes thread_of.pass_on
  thread_passes_each p [] = tt
  thread_passes_each p (l ∷ ls) =
      (rapid_to_lem p.facing l p.home, (thread_to_lem p.facing p.pitch l p.end, (rapid_to_lem p.facing p.from p.end, (rapid_to_lem p.facing p.from p.home, thread_passes_each p ls))))

  threading_each : (t : Thread) → Every P (thread_of.threading t)
  unfolding thread_of.threading
  threading_each t = thread_passes_each (thread_of.pass_for t) _

  grooving_each : (g : Groove) → groove.wrong g ≡ false → Every P (groove.grooving g)
  grooving_each g e =
      grooving_every g P
      (record { cut = λ m n _ _. feed_to_lem g.facing g.f g.g95 _ _; out = λ m n _ _. rapid_to_lem g.facing _ _; dwell = λ m n _ _. dwell_at_lem g.facing g.dwell _ _ }) e

  drilling_each : (b : Bore) → drill.wrong b ≡ false → Every P (drill.drilling b)
  drilling_each b e =
      drilling_every b P
      (record { bite = λ m _. h.feed b.x (drill.deep_at b m) b.f b.g95; out = λ m _. h.rapid b.x (drill.deep_at b m); rest = h.dwell b.x b.target b.dwell }) e

  -- THE LAW, with a clause for each cycle
  pub cycle_each : (c : Cycle) → wrong c ≡ false → Every P (records c)
  cycle_each (cycle.Turning c) e = turning_each c
  cycle_each (cycle.Threading t) e = threading_each t
  cycle_each (cycle.Grooving g) e = grooving_each g e
  cycle_each (cycle.Drilling b) e = drilling_each b e

  -- ---- each deed that a block gives, with a clause for each motion
  either : (t : Bool) (d e : Deed) → Told P d → Told P e → Told P (cond t d e)
  either true d e p q = p
  either false d e p q = q

  module _ (b : Block) (s : Sending) where
    straight_told : (g00 : Bool) (least : ℕ) (r : Record) → P r → Told P (straight_if b g00 least r)
    unfolding straight_if
    straight_told g00 least r u = either (has_centre b) deed.Nowhere _ tt (either (has_path b) _ deed.Nothing u tt)

    round_told : (clockwise : Bool) → Told P (round_if clockwise b s)
    unfolding round_if
    round_told clockwise = either (has_path b) _ deed.Nothing tt tt

    pub deed_told : (k : Kept) → Told P (deed_of k b s)
    unfolding deed_of move_of
    deed_told (kept.Of motion.Rapid) = straight_told true _ _ (h.rapid s.x_target s.z_target)
    deed_told (kept.Of motion.Feed) = straight_told false _ _ (h.feed s.x_target s.z_target s.f s.g95)
    deed_told (kept.Of motion.Clockwise) = round_told true
    deed_told (kept.Of motion.Counterclockwise) = round_told false
    deed_told (kept.Of motion.Thread) = straight_told false _ _ (h.thread s.x_target s.z_target s.f)
    deed_told (kept.Of motion.Dwell) = h.dwell s.x s.z (d_word b 4)
    deed_told (kept.Of motion.Turning) = tt
    deed_told (kept.Of motion.Threading) = tt
    deed_told (kept.Of motion.Grooving) = tt
    deed_told (kept.Of motion.ChipBreaking) = tt
    deed_told (kept.Of motion.Redrawing) = tt
    deed_told kept.Nothing = either (has_path b || has_centre b) deed.Nowhere deed.Nothing tt tt
