-- A place on the ray of an arrow, on the circle through it: toward a quadrant point it reaches no farther than the arrow, but for the slack. (It is the arrow itself; the one estimate serves.)
-- Assumes nothing.
use mathlib.Core.Path.{◌≡◌, ◌∙◌}
use mathlib.Core.Logic.{inl, inr}
use Prim.Native.Nat.{ℕ, ◌*◌, ◌<◌}
use native.Mathlib.Omega.{arith}
use lib.IntN.{ℤ, pos, ◌+ℤ◌, ◌*ℤ◌}
use Rattle.whole.proofs.Integers.{whole, add_in, up_neg, down_neg}
use Rattle.arrows.specs.declared.Arrow.{Arrow}
use Rattle.arrows.specs.Arrows.{square, cross, dot}
use Rattle.sweeps.specs.declared.Quadrant.{Quadrant}
use Rattle.arrows.proofs.Signs.{Neg, Pos, NonNeg, NonPos, Sign, minus, nought, plus, sign, zero_l, zero_r, pp<, pn, pn<, np<}
use Rattle.arrows.proofs.Roots.{near_self}
use Rattle.arrows.proofs.Plane.{Lengths, Reached, split, by_first, by_last}
use Rattle.sweeps.proofs.Quadrants.{along, across, lie, square_turned}
use Rattle.sweeps.proofs.Sweeps.{cross_back, dot_back}
use Rattle.straying.proofs.Ways.{long}

module _ {q m : ℕ} (s p : Arrow) (k : Quadrant) (some : 0 < q) (m>0 : 0 < m) (s_is : square s ≡ m) (circle : square p ≡ q * q * m) (x : cross s p ≡ pos 0) (d : Pos (dot s p)) where
  lengths : Lengths q m m m (along k s) (across k s) (along k s) (across k s) (along k p) (across k p)
  lengths = record {
    some = some;
    m>0 = m>0;
    n>0 = m>0;
    k>0 = m>0;
    m_n = near_self m;
    n_m = near_self m;
    m_k = near_self m;
    k_m = near_self m;
    circle = square_turned k p ∙ circle;
    n_is = square_turned k s ∙ s_is;
    k_is = square_turned k s ∙ s_is;
  }

  abbrev size : ℤ
  size = along k s *ℤ along k s +ℤ across k s *ℤ across k s

  y : cross p s ≡ pos 0
  y = omega (whole, cross_back s p, up_neg (cross s p), down_neg (cross s p))

  d' : Pos (dot p s)
  d' = omega (whole, dot_back s p)

  sized : Pos size
  sized = omega (whole, (lie k s s s).d_is, long s (omega (arith, s_is)))

  -- both lie on one side of the axis
  level : dot p s *ℤ across k s ≡ across k p *ℤ size
  level = omega (whole, split (lie k p s s), zero_l (cross p s) (along k s) y, add_in (cross p s *ℤ along k s) (across k p *ℤ size))

  above : Pos (across k s) → Sign (across k p) → Pos (across k p)
  above h (plus g) = g
  above h (nought g) = absurd (omega (whole, level, zero_l (across k p) size g, pp< (dot p s) (across k s) d' h))
  above h (minus g) = absurd (omega (whole, level, np< (across k p) size g sized, pp< (dot p s) (across k s) d' h))

  below : Neg (across k s) → Sign (across k p) → Neg (across k p)
  below h (minus g) = g
  below h (nought g) = absurd (omega (whole, level, zero_l (across k p) size g, pn< (dot p s) (across k s) d' h))
  below h (plus g) = absurd (omega (whole, level, pp< (across k p) size g sized, pn< (dot p s) (across k s) d' h))

  on_axis : across k s ≡ pos 0 → Sign (across k p) → across k p ≡ pos 0
  on_axis h (nought g) = g
  on_axis h (minus g) = absurd (omega (whole, level, np< (across k p) size g sized, zero_r (dot p s) (across k s) h))
  on_axis h (plus g) = absurd (omega (whole, level, pp< (across k p) size g sized, zero_r (dot p s) (across k s) h))

  -- where both lie on the axis, they point one way
  against : across k p ≡ pos 0 → NonNeg (along k p) → NonPos (along k s) → ⊥
  against h g f = omega (whole, d', (lie k p s s).d_is, add_in (along k p *ℤ along k s) (across k p *ℤ across k s), zero_l (across k p) (across k s) h, pn (along k p) (along k s) g f)

  one_way : across k p ≡ pos 0 → Pos (along k p) → Sign (along k s) → Pos (along k s)
  one_way h g (plus f) = f
  one_way h g (nought f) = absurd (against h (omega whole) (omega whole))
  one_way h g (minus f) = absurd (against h (omega whole) (omega whole))

  go : Sign (across k s) → Sign (along k p) → Reached q (along k s) (along k s) (along k p)
  go (plus h) r = let g = above h (sign (across k p)) in by_first (lie k s s p) lengths (omega whole) (omega whole) (omega whole) (inl g)
  go (minus h) r = let g = below h (sign (across k p)) in by_last (lie k s s p) lengths (omega whole) (omega whole) (omega (whole, y)) (inl g)
  go (nought h) (plus r) = let g = on_axis h (sign (across k p)) in by_first (lie k s s p) lengths (omega whole) (omega whole) (omega whole) (inr (inl (one_way g r (sign (along k s)))))
  go (nought h) (nought r) = let g = on_axis h (sign (across k p)) in by_first (lie k s s p) lengths (omega whole) (omega whole) (omega whole) (inr (inr (omega whole)))
  go (nought h) (minus r) = let g = on_axis h (sign (across k p)) in by_first (lie k s s p) lengths (omega whole) (omega whole) (omega whole) (inr (inr (omega whole)))

  pub on_its_ray : Reached q (along k s) (along k s) (along k p)
  on_its_ray = go (sign (across k s)) (sign (along k p))
