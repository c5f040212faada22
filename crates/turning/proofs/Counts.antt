-- How many records a turning cycle has, and that their numbers fit.
-- Assumes nothing.
use mathlib.Core.Path.{◌≡◌, refl, sym, ap, ◌∙◌, subst}
use mathlib.Core.Bool.{Bool}
use mathlib.Core.List.{List, [], ◌∷◌, ◌++◌}
use Prim.Native.Nat.{ℕ, zero, suc, ◌+◌, ◌*◌, ◌<◌, ◌≤◌, ◌^◌}
use native.Mathlib.Omega.{arith}
use lib.IntN.{ℤ, ◌+ℤ◌, ◌-ℤ◌, nat_abs}
use lib.ListN.{length, length-append}
use mir.Syntax.{w32}
use mir.Val.{SFits}
use borrow.Author.Tests.{ne_eqb}
use Rattle.whole.specs.declared.Side.{Side}
use Rattle.whole.specs.Signed.{along}
use Rattle.division.specs.Division.{sum}
use Rattle.whole.proofs.Sides.{along_add, along_zero}
use Rattle.division.proofs.Divisions.{few_pieces, pieces_length, pieces_sum}
use Rattle.whole.proofs.Integers.{whole, range, sub_in, abs}
use Rattle.moves.specs.Form.{AllFitting}
use Rattle.axes.specs.declared.Axis.{Axis}
use Rattle.axes.specs.Axis.{side, net, allowance_line}
use Rattle.axes.proofs.Fitting.{rapid_fitting, feed_fitting}
use Rattle.axes.proofs.Axes.{line_net, line_fits}
use Rattle.turning.specs.declared.Turning.{Turning}
use Rattle.turning.specs.declared.Pass.{Pass}
use Rattle.turning.specs.Turning.{pass_count, row, pass_for, pass_on, passes, turning, record_count}
use Rattle.turning.proofs.Turned.{some_passes}

-- ---- how many
pass_length : (p : Pass) (l : ℤ) → length (pass_on p l) ≡ 4
unfolding pass_on
pass_length p l = refl

passes_length : (p : Pass) (s : Side) (l : ℤ) (ds : List ℕ) → length (passes (pass_on p) s l ds) ≡ 4 * length ds
unfolding passes
passes_length p s l [] = refl
passes_length p s l (d ∷ ds) =
    let k : ℤ = l +ℤ along s d in
    length-append (pass_on p k) (passes (pass_on p) s k ds) ∙ omega (arith, pass_length p k, passes_length p s k ds)

pub turning_length : (c : Turning) → 0 < net c.infeed → length (turning c) ≡ record_count c
unfolding turning record_count
turning_length c h =
    let e : ℕ = net c.infeed in
    passes_length (pass_for c) (side c.infeed) c.infeed.start (row c)
    ∙ ap (λ (n : ℕ). 4 * n) (pieces_length e (pass_count e c.division) (some_passes e c.division h))

-- ---- their numbers
-- an axis whose places fit, as those of every axis of the code do by their types
pub record Stands (a : Axis) : Type 0 where
  pub start : SFits w32 a.start
  pub target : SFits w32 a.target

pub turning_fitting : (c : Turning) → Stands c.infeed → Stands c.path → c.f < 2 ^ 32 → 0 < net c.infeed → 0 < net c.path → AllFitting (turning c)
unfolding turning passes pass_on
turning_fitting c i p v h g =
    subst (λ (l : ℤ). AllFitting (passes (pass_on (pass_for c)) (side a) l (row c))) (along_zero a.start (side a))
    (go 0 (row c) (omega (arith, pieces_sum (net a) (pass_count (net a) c.division) (some_passes (net a) c.division h))))
  where
    a : Axis
    a = c.infeed

    b : Bool
    b = c.facing

    end : SFits w32 (allowance_line c.path)
    end = subst (SFits w32) (line_net c.path (omega arith)) (line_fits c.path p.start p.target (net c.path) (omega arith))

    go : (m : ℕ) (ds : List ℕ) → m + sum ds ≤ net a → AllFitting (passes (pass_on (pass_for c)) (side a) (a.start +ℤ along (side a) m) ds)
    go m [] e = tt
    go m (d ∷ ds) e =
        let l : SFits w32 (a.start +ℤ along (side a) (m + d)) = line_fits a i.start i.target (m + d) (omega arith) in
        subst (λ (l : ℤ). AllFitting (pass_on (pass_for c) l ++ passes (pass_on (pass_for c)) (side a) l ds)) (sym (along_add a.start (side a) m d)) (
          rapid_fitting b l p.start,
          (
            feed_fitting b c.f c.g95 v l end,
            (feed_fitting b c.f c.g95 v i.start end, (rapid_fitting b i.start p.start, go (m + d) ds (omega arith))),
          ),
        )

-- ---- and how many they can be
-- a length has no more passes than units
pub few_passes : (e d : ℕ) → 0 < e → pass_count e d ≤ e
unfolding pass_count
few_passes e zero h = h
few_passes e (suc d) h =
    rw (ne_eqb (suc d) 0 (λ z. absurd (omega arith))) (few_pieces e (suc d) h (omega arith))

-- two places that fit lie less than 2 ^ 32 apart
pub apart : (a b : ℤ) → SFits w32 a → SFits w32 b → nat_abs (a -ℤ b) < 2 ^ 32
apart a b f g = let x = range f in let y = range g in let d = sub_in a b in let m = abs (a -ℤ b) in omega whole

pub few_turning : (c : Turning) → Stands c.infeed → 0 < net c.infeed → record_count c < 4 * 2 ^ 32
unfolding record_count
few_turning c s h =
    let a = c.infeed in
    omega (arith, few_passes (net a) c.division h, apart a.target a.start s.target s.start)
