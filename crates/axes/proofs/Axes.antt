-- The laws of an axis: where its allowance line lies, and that the lines on the way to it fit.
-- And the law of what a test picks, by which facing exchanges the axes.
-- Assumes nothing.
use mathlib.Core.Path.{◌≡◌, refl, sym, ap, ◌∙◌}
use mathlib.Core.Bool.{Bool, cond}
use Prim.Native.Nat.{ℕ, zero, suc, ◌-◌, ◌<◌, ◌≤◌}
use native.Mathlib.Omega.{arith}
use lib.IntN.{ℤ, pos, negsuc, neg_ℤ, nat_abs, ◌+ℤ◌, ◌-ℤ◌}
use mir.Syntax.{w32}
use mir.Val.{SFits}
use Rattle.whole.specs.declared.Side.{Side}
use Rattle.whole.specs.declared.Side.TheVariants.{Minus, Zero, Plus}
use Rattle.whole.specs.Signed.{side_of, along}
use Rattle.whole.proofs.Integers.{whole, add_in, sub_in, up_neg, down_neg}
use Rattle.whole.proofs.Sides.{toward}
use Rattle.axes.specs.Axis.{distance, side, net, allowance_line}
use Rattle.axes.specs.declared.Axis.{Axis}

-- the allowance line lies the net distance from the start
pub line_net : (a : Axis) → a.allowance ≤ distance a → a.start +ℤ along (side a) (net a) ≡ allowance_line a
line_net a h = go a.start a.target a.allowance (a.target -ℤ a.start) refl h
  where
    go : (s t : ℤ) (k : ℕ) (z : ℤ) → t -ℤ s ≡ z → k ≤ nat_abs z → s +ℤ along (side_of z) (nat_abs z - k) ≡ t -ℤ along (side_of z) k
    go s t k (pos zero) e h = omega (whole, add_in s (pos 0), sub_in t (pos 0), sub_in t s)
    go s t k (pos (suc n)) e h = omega (whole, add_in s (pos (suc n - k)), sub_in t (pos k), sub_in t s)
    go s t k (negsuc n) e h =
        omega (whole, add_in s (neg_ℤ (pos (suc n - k))), sub_in t (neg_ℤ (pos k)), sub_in t s, up_neg (pos (suc n - k)), down_neg (pos (suc n - k)), up_neg (pos k), down_neg (pos k))

-- a side on which a target lies that is not the start
abbrev pub Sided : Side → Type 0
Sided Minus = Unit {0}
Sided Zero = ⊥
Sided Plus = Unit {0}

pub sided : (z : ℤ) → 0 < nat_abs z → Sided (side_of z)
sided (pos zero) h = absurd (omega arith)
sided (pos (suc n)) h = tt
sided (negsuc n) h = tt

-- a line no farther than the net distance fits where the start and the target do
pub line_fits : (a : Axis) → SFits w32 a.start → SFits w32 a.target → (m : ℕ) → m ≤ net a → SFits w32 (a.start +ℤ along (side a) m)
line_fits a f g m h = toward f g m (omega arith)

-- ---- what a test picks
-- what was made on one way of a test is what the test picks
pub picked : {A : Type 0} {f t : Bool} {r : A} (x y : A) → f ≡ t → r ≡ cond t x y → r ≡ cond f x y
picked x y e q = q ∙ ap (λ (t : Bool). cond t x y) (sym e)
