-- How many records a groove has, and that their numbers fit.
-- Assumes nothing.
use mathlib.Core.Path.{◌≡◌, refl, sym, ap, ◌∙◌}
use mathlib.Core.Bool.{Bool, true, false, cond}
use mathlib.Core.List.{List, [], ◌∷◌, ◌++◌}
use Prim.Native.Nat.{ℕ, suc, ◌+◌, ◌*◌, ◌<◌, ◌≤◌, ◌^◌}
use native.Mathlib.Omega.{arith}
use lib.Dec.{eqb}
use lib.IntN.{ℤ, ◌+ℤ◌}
use lib.ListN.{length, length-append}
use mir.Syntax.{w32}
use mir.Val.{SFits}
use borrow.Author.Tests.{eq-eqb, ne_eqb}
use Rattle.whole.specs.declared.Side.TheVariants.{Minus}
use Rattle.whole.specs.Signed.{along}
use Rattle.whole.proofs.Sides.{toward}
use Rattle.moves.specs.declared.Record.{Record}
use Rattle.moves.specs.Form.{Fitting, AllFitting}
use Rattle.axes.specs.Goes.{dwell_at}
use Rattle.axes.proofs.Every.{all_fitting}
use Rattle.axes.proofs.Fitting.{rapid_fitting, feed_fitting, dwell_fitting}
use Rattle.grooving.specs.declared.Way.{Way}
use Rattle.grooving.specs.declared.Groove.{Groove}
use Rattle.grooving.specs.Grooving.{length_of, wrong, rest, step_count, steps, cuts, out_to, deep_at, cutting, dwelling, plunge, plunges, after_first, grooving, plunge_count, record_count}
use Rattle.grooving.proofs.Asked.{width_fits}
use Rattle.grooving.proofs.Rows.{some_cuts, cuts_length, steps_length}
use Rattle.grooving.proofs.Each.{width_at, grooving_every}

-- ---- how many
-- a feed for each cut, and a rapid between each two
pub cutting_length : (g : Groove) (w : ℤ) (t : ℕ) (ds : List ℕ) → 0 < length ds → length (cutting g w t ds) + 1 ≡ 2 * length ds
unfolding cutting
cutting_length g w t [] h = absurd (omega arith)
cutting_length g w t (d ∷ []) h = refl
cutting_length g w t (d ∷ (e ∷ ds)) h = omega (arith, cutting_length g w (t + d) (e ∷ ds) (omega arith))

pub dwelling_length : (g : Groove) (w : ℤ) → length (dwelling g w) ≡ cond (eqb g.dwell 0) 0 1
unfolding dwelling
dwelling_length g w = go (eqb g.dwell 0)
  where
    go : (t : Bool) → length (cond t [] (dwell_at g.facing g.dwell g.depth.target w ∷ [])) ≡ cond t 0 1
    go true = refl
    go false = refl

pub plunge_length : (g : Groove) → wrong g ≡ false → (w : ℤ) → length (plunge g w) ≡ plunge_count g
unfolding plunge plunge_count
plunge_length g q w =
    let out : List Record = out_to g w g.depth.start ∷ [] in
    let some : 0 < length (cuts g) = omega (arith, cuts_length g q, some_cuts g q) in
    length-append (cutting g w 0 (cuts g)) (dwelling g w ++ out)
    ∙ omega (arith, cutting_length g w 0 (cuts g) some, cuts_length g q, length-append (dwelling g w) out, dwelling_length g w)

pub plunges_length : (g : Groove) → wrong g ≡ false → (w : ℤ) (ss : List ℕ) → length (plunges g w ss) ≡ length ss * (plunge_count g + 1) + 1
unfolding plunges
plunges_length g q w [] = omega arith
plunges_length g q w (s ∷ ss) =
    let v = w +ℤ along Minus s in
    ap suc (length-append (plunge g v) (plunges g v ss)) ∙ omega (arith, plunge_length g q v, plunges_length g q v ss)

pub grooving_length : (g : Groove) → wrong g ≡ false → length (grooving g) ≡ record_count g
unfolding grooving record_count
grooving_length g q =
    length-append (plunge g g.width.start) (after_first g (steps g))
    ∙ go (steps g) (steps_length g q)
  where
    p : ℕ
    p = plunge_count g

    go : (ss : List ℕ) → length ss ≡ step_count g
        → length (plunge g g.width.start) + length (after_first g ss) ≡ cond (eqb (step_count g) 0) p (p + (step_count g * (p + 1) + 1))
    go [] e = rw (eq-eqb (step_count g) 0 (sym e)) (omega (arith, plunge_length g q g.width.start))
    go (s ∷ ss) e =
        rw (ne_eqb (step_count g) 0 (λ z. absurd (omega arith)))
        ((λ i. plunge_length g q g.width.start i + plunges_length g q g.width.start (s ∷ ss) i) ∙ ap (λ (n : ℕ). p + (n * (p + 1) + 1)) e)

-- ---- their numbers
-- a way whose places fit, as those of every way of the code do by their types
pub record Stands (a : Way) : Type 0 where
  pub start : SFits w32 a.start
  pub target : SFits w32 a.target

pub grooving_fitting : (g : Groove) → Stands g.depth → Stands g.width → g.f < 2 ^ 32 → g.dwell < 2 ^ 32 → wrong g ≡ false → AllFitting (grooving g)
grooving_fitting g d w v t q =
    all_fitting (grooving g) (grooving_every g Fitting (record {
      cut = λ m n h k. feed_fitting g.facing g.f g.g95 v (deep m h) (wide n k);
      out = λ m n h k. rapid_fitting g.facing (deep m h) (wide n k);
      dwell = λ m n h k. dwell_fitting g.facing g.dwell t (deep m h) (wide n k);
    }) q)
  where
    deep : (m : ℕ) → m ≤ length_of g.depth → SFits w32 (deep_at g m)
    deep m h = toward d.start d.target m h

    wide : (n : ℕ) → n ≤ rest g → SFits w32 (width_at g n)
    wide n h = width_fits g q w.start w.target n (omega arith)
