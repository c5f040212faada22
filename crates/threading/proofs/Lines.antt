-- Where a thread lies: the crest is no farther from the start than the bottom, and each line lies between.
-- Assumes nothing.
use mathlib.Core.Path.{◌≡◌, refl, sym, ap, ◌∙◌}
use mathlib.Core.Bool.{Bool, true, false, cond, not, ◌&&◌}
use Prim.Native.Nat.{ℕ, ◌+◌, ◌-◌, ◌*◌, ◌≤◌}
use native.Mathlib.Omega.{arith}
use lib.Dec.{ltb}
use lib.IntN.{ℤ, pos, neg_ℤ, nat_abs, ◌+ℤ◌, ◌-ℤ◌}
use borrow.Author.Tests.{ltb-false}
use Rattle.whole.specs.declared.Side.{Side}
use Rattle.whole.specs.declared.Side.TheVariants.{Minus, Zero, Plus}
use Rattle.whole.specs.Signed.{side_of, along}
use Rattle.whole.proofs.Integers.{whole, add_in, sub_in, up_neg, down_neg}
use Rattle.whole.proofs.Sides.{along_add, arrives}
use Rattle.axes.specs.Axis.{distance, side}
use Rattle.axes.proofs.Axes.{line_net}
use Rattle.threading.specs.declared.Thread.{Thread}
use Rattle.threading.specs.Threading.{wide, whole_depth, bottom, crest, line_at, crest_beyond}

-- ---- lengths per side
pub wide_mono : (f : Bool) (m n : ℕ) → m ≤ n → wide f m ≤ wide f n
unfolding wide
wide_mono true m n h = h
wide_mono false m n h = omega arith

pub wide_sum : (f : Bool) (m n : ℕ) → wide f (m + n) ≡ wide f m + wide f n
unfolding wide
wide_sum true m n = refl
wide_sum false m n = omega arith

pub wide_zero : (f : Bool) → wide f 0 ≡ 0
unfolding wide
wide_zero true = refl
wide_zero false = refl

pub wide_small : (f : Bool) (n : ℕ) → wide f n ≤ 2 * n
unfolding wide
wide_small true n = omega arith
wide_small false n = omega arith

-- ---- back and forth on a side
pub back_forth : (l : ℤ) (s : Side) (a c : ℕ) → (l -ℤ along s a) +ℤ along s (a + c) ≡ l +ℤ along s c
back_forth l Minus a c =
    omega (whole, sub_in l (neg_ℤ (pos a)), add_in (l -ℤ neg_ℤ (pos a)) (neg_ℤ (pos (a + c))), add_in l (neg_ℤ (pos c)), up_neg (pos a), down_neg (pos a), up_neg (pos (a + c)), down_neg (pos (a + c)), up_neg (pos c), down_neg (pos c))
back_forth l Zero a c = omega (whole, sub_in l (pos 0), add_in (l -ℤ pos 0) (pos 0), add_in l (pos 0))
back_forth l Plus a c = omega (whole, sub_in l (pos a), add_in (l -ℤ pos a) (pos (a + c)), add_in l (pos c))

pub forth_back : (l : ℤ) (s : Side) (a c : ℕ) → (l +ℤ along s c) -ℤ along s (a + c) ≡ l -ℤ along s a
forth_back l Minus a c =
    omega (whole, sub_in l (neg_ℤ (pos a)), add_in l (neg_ℤ (pos c)), sub_in (l +ℤ neg_ℤ (pos c)) (neg_ℤ (pos (a + c))), up_neg (pos a), down_neg (pos a), up_neg (pos c), down_neg (pos c), up_neg (pos (a + c)), down_neg (pos (a + c)))
forth_back l Zero a c = omega (whole, sub_in l (pos 0), add_in l (pos 0), sub_in (l +ℤ pos 0) (pos 0))
forth_back l Plus a c = omega (whole, sub_in l (pos a), add_in l (pos c), sub_in (l +ℤ pos c) (pos (a + c)))

-- ---- how far the crest lies from the start
abbrev pub gap_of : Bool → ℕ → ℕ → ℕ
gap_of nominal n w = cond nominal n (n - w)

abbrev pub gap : Thread → ℕ
gap t = gap_of t.nominal (distance t.infeed) (whole_depth t)

module _ (a b : ℤ) (w : ℕ) where
  abbrev n : ℕ
  n = nat_abs (b -ℤ a)

  abbrev s : Side
  s = side_of (b -ℤ a)

  crest_way : (t : Bool) → (not t && ltb n w) ≡ false → cond t b (b -ℤ along s w) ≡ a +ℤ along s (gap_of t n w)
  crest_way true h = sym (arrives a b)
  crest_way false h = sym (line_net (record { start = a; target = b; allowance = w }) (ltb-false n w h))

  bottom_way : (t : Bool) → (not t && ltb n w) ≡ false → cond t (b +ℤ along s w) b ≡ a +ℤ along s (gap_of t n w + w)
  bottom_way true h = ap (λ (z : ℤ). z +ℤ along s w) (sym (arrives a b)) ∙ along_add a s n w
  bottom_way false h =
      let k : w ≤ n = ltb-false n w h in
      let m : n ≡ (n - w) + w = omega arith in
      sym (arrives a b) ∙ ap (λ (m : ℕ). a +ℤ along s m) m

module _ (t : Thread) (r : crest_beyond t ≡ false) where
  -- the crest is on the way from the start to the bottom
  pub crest_from : crest t ≡ t.infeed.start +ℤ along (side t.infeed) (gap t)
  unfolding crest crest_beyond
  crest_from = crest_way t.infeed.start t.infeed.target (whole_depth t) t.nominal r

  pub bottom_from : bottom t ≡ t.infeed.start +ℤ along (side t.infeed) (gap t + whole_depth t)
  unfolding bottom crest_beyond
  bottom_from = bottom_way t.infeed.start t.infeed.target (whole_depth t) t.nominal r

  -- so is each line
  pub line_from_lem : (x : ℕ) → line_at t x ≡ t.infeed.start +ℤ along (side t.infeed) (gap t + wide t.facing x)
  line_from_lem x = ap (λ (z : ℤ). z +ℤ along (side t.infeed) (wide t.facing x)) crest_from ∙ along_add t.infeed.start (side t.infeed) (gap t) (wide t.facing x)

  -- THE LINE OF THE WHOLE DEPTH IS THE BOTTOM
  pub line_bottom : line_at t t.d6 ≡ bottom t
  line_bottom = line_from_lem t.d6 ∙ sym bottom_from
