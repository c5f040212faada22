-- Every record of a bore that is not wrong: each is a feed, a rapid or a dwell at a depth no deeper than the stroke. And two of them: the rapid to the start, and the feed to the target.
-- Assumes nothing.
use mathlib.Core.Path.{◌≡◌, ap, ◌∙◌, subst}
use mathlib.Core.Bool.{Bool, true, false, cond}
use mathlib.Core.List.{List, [], ◌∷◌, ◌++◌}
use Prim.Native.Nat.{ℕ, ◌+◌, ◌-◌, ◌<◌, ◌≤◌, ◌^◌}
use native.Mathlib.Omega.{arith}
use lib.Dec.{eqb}
use lib.IntN.{ℤ}
use lib.ListN.{length}
use mir.Syntax.{w32}
use mir.Val.{SFits}
use Rattle.division.specs.Division.{sum}
use Rattle.whole.proofs.Sides.{along_zero, arrives, toward}
use Rattle.moves.specs.declared.Record.{Record}
use Rattle.moves.specs.Kinds.{dwell}
use Rattle.moves.specs.Form.{Fitting, AllFitting}
use Rattle.axes.specs.Goes.{rapid_to, feed_to, dwell_at}
use Rattle.axes.proofs.Every.{Every, joined, front, behind, all_fitting}
use Rattle.axes.proofs.Fitting.{rapid_fitting, feed_fitting, dwell_fitting}
use Rattle.drilling.specs.declared.Bore.{Bore}
use Rattle.drilling.specs.Drilling.{stroke_of, way_of, bites, wrong, deep_at, bore_to, out_to, clearing, boring, dwelling, drilling}
use Rattle.drilling.proofs.Asked.{bites_sum, some_bites}

-- ---- places
pub deep_start : (b : Bore) → deep_at b 0 ≡ b.start
deep_start b = along_zero b.start (way_of b)

pub deep_target : (b : Bore) → deep_at b (stroke_of b) ≡ b.target
deep_target b = arrives b.start b.target

-- ---- THE LAW: what holds of the three kinds of records at all such depths holds of every record
pub record Kinds (b : Bore) (P : Record → Type 0) : Type 0 where
  pub bite : (m : ℕ) → m ≤ stroke_of b → P (bore_to b (deep_at b m))
  pub out : (m : ℕ) → m ≤ stroke_of b → P (out_to b (deep_at b m))
  pub rest : P (dwell b.x b.target b.dwell)

module _ (b : Bore) (P : Record → Type 0) (k : Kinds b P) where
  out_every : P (out_to b b.start)
  out_every = subst (λ (z : ℤ). P (out_to b z)) (deep_start b) (k.out 0 (omega arith))

  clearing_every : (t : ℕ) → t ≤ stroke_of b → Every P (clearing b t)
  unfolding clearing
  clearing_every t h = go b.full
    where
      back : P (out_to b (deep_at b (t - b.back)))
      back = k.out (t - b.back) (omega arith)

      go : (f : Bool) → Every P (cond f (out_to b b.start ∷ out_to b (deep_at b (t - b.back)) ∷ []) (out_to b (deep_at b (t - b.back)) ∷ []))
      go true = (out_every, (back, tt))
      go false = (back, tt)

  boring_every : (t : ℕ) (ds : List ℕ) → t + sum ds ≤ stroke_of b → Every P (boring b t ds)
  unfolding boring
  boring_every t [] e = tt
  boring_every t (d ∷ []) e = (k.bite (t + d) (omega arith), tt)
  boring_every t (d ∷ (d' ∷ ds)) e =
      (k.bite (t + d) (omega arith), joined P (clearing b (t + d)) (boring b (t + d) (d' ∷ ds)) (clearing_every (t + d) (omega arith)) (boring_every (t + d) (d' ∷ ds) (omega arith)))

  dwelling_every : Every P (dwelling b)
  unfolding dwelling
  dwelling_every = go (eqb b.dwell 0)
    where
      go : (t : Bool) → Every P (cond t [] (dwell b.x b.target b.dwell ∷ []))
      go true = tt
      go false = (k.rest, tt)

  pub drilling_every : wrong b ≡ false → Every P (drilling b)
  unfolding drilling
  drilling_every q =
      joined P (boring b 0 (bites b)) (dwelling b ++ (out_to b b.start ∷ [])) (boring_every 0 (bites b) (omega (arith, bites_sum b q)))
      (joined P (dwelling b) (out_to b b.start ∷ []) dwelling_every (out_every, tt))

-- ---- two records of a bore
module _ (b : Bore) (P : Record → Type 0) where
  boring_bottom : (t : ℕ) (ds : List ℕ) → 0 < length ds → Every P (boring b t ds) → P (bore_to b (deep_at b (t + sum ds)))
  unfolding boring
  boring_bottom t [] h e = absurd (omega arith)
  boring_bottom t (d ∷ []) h e = subst (λ (m : ℕ). P (bore_to b (deep_at b m))) (omega arith) e.0
  boring_bottom t (d ∷ (d' ∷ ds)) h e =
      subst (λ (m : ℕ). P (bore_to b (deep_at b m))) (omega arith)
      (boring_bottom (t + d) (d' ∷ ds) (omega arith) (behind P (clearing b (t + d)) (boring b (t + d) (d' ∷ ds)) e.1))

  pub bottom : wrong b ≡ false → Every P (drilling b) → P (bore_to b b.target)
  unfolding drilling
  bottom q e =
      subst (λ (z : ℤ). P (bore_to b z)) (ap (deep_at b) whole ∙ deep_target b)
      (boring_bottom 0 (bites b) (some_bites b q) (front P (boring b 0 (bites b)) (dwelling b ++ (out_to b b.start ∷ [])) e))
    where
      whole : 0 + sum (bites b) ≡ stroke_of b
      whole = omega (arith, bites_sum b q)

  pub home : Every P (drilling b) → P (out_to b b.start)
  unfolding drilling
  home e = (behind P (dwelling b) (out_to b b.start ∷ []) (behind P (boring b 0 (bites b)) (dwelling b ++ (out_to b b.start ∷ [])) e)).0

-- ---- their numbers fit
-- a bore whose numbers fit, as those of every bore of the code do by their types
pub record Stands (b : Bore) : Type 0 where
  pub x : SFits w32 b.x
  pub start : SFits w32 b.start
  pub target : SFits w32 b.target
  pub f : b.f < 2 ^ 32
  pub dwell : b.dwell < 2 ^ 32

pub drilling_fitting : (b : Bore) → Stands b → wrong b ≡ false → AllFitting (drilling b)
unfolding rapid_to feed_to dwell_at
drilling_fitting b s q =
    all_fitting (drilling b) (drilling_every b Fitting (record {
      bite = λ m h. feed_fitting false b.f b.g95 s.f s.x (toward s.start s.target m h);
      out = λ m h. rapid_fitting false s.x (toward s.start s.target m h);
      rest = dwell_fitting false b.dwell s.dwell s.x s.target;
    }) q)
