-- The law of the soft limits: a way whose ends lie within a span lies within it.
-- Assumes nothing.
use mathlib.Core.Path.{◌≡◌, refl, ap, ◌∙◌, subst}
use mathlib.Core.Bool.{Bool, true, false, ◌||◌}
use Prim.Native.Nat.{ℕ, ◌≤◌}
use lib.IntN.{ℤ, pos, neg_ℤ, ◌+ℤ◌}
use lib.Dec.{T}
use lib.Signed.{lt_z}
use Rattle.whole.specs.Signed.{along}
use Rattle.whole.specs.declared.Side.{Side}
use Rattle.whole.specs.declared.Side.TheVariants.{Minus, Zero, Plus}
use Rattle.whole.proofs.Integers.{whole, add_in, up_neg, down_neg, nlt_test}
use Rattle.settings.specs.Limits.{outside_span}
use Rattle.settings.specs.declared.Span.{Span}

-- a place that is not outside is on neither side of the span
pub record Inside (s : Span) (v : ℤ) : Type 0 where
  pub low : lt_z v s.lowest ≡ false
  pub high : lt_z s.highest v ≡ false

neither : (a b : Bool) → a || b ≡ false → (a ≡ false) × (b ≡ false)
neither true b e = absurd (subst T e tt)
neither false b e = (refl, e)

pub inside : (s : Span) (v : ℤ) → outside_span s v ≡ false → Inside s v
unfolding outside_span
inside s v e =
    let n = neither (lt_z v s.lowest) (lt_z s.highest v) e in
    record { low = n.0; high = n.1 }

pub not_outside : (s : Span) (v : ℤ) → Inside s v → outside_span s v ≡ false
unfolding outside_span
not_outside s v i = ap (λ (t : Bool). t || lt_z s.highest v) i.low ∙ i.high

inside_between : (s : Span) (d : Side) (p : ℤ) (m n : ℕ) → m ≤ n → Inside s p → Inside s (p +ℤ along d n) → Inside s (p +ℤ along d m)
inside_between s Minus p m n h i j =
    let x = add_in p (neg_ℤ (pos m)) in
    let y = add_in p (neg_ℤ (pos n)) in record {
      low = nlt_test (p +ℤ neg_ℤ (pos m)) s.lowest (omega (whole, x, y, j.low, up_neg (pos m), down_neg (pos m), up_neg (pos n), down_neg (pos n)));
      high = nlt_test s.highest (p +ℤ neg_ℤ (pos m)) (omega (whole, x, y, i.high, up_neg (pos m), down_neg (pos m), up_neg (pos n), down_neg (pos n)));
    }
inside_between s Zero p m n h i j = j
inside_between s Plus p m n h i j =
    let x = add_in p (pos m) in
    let y = add_in p (pos n) in record {
      low = nlt_test (p +ℤ pos m) s.lowest (omega (whole, x, y, i.low));
      high = nlt_test s.highest (p +ℤ pos m) (omega (whole, x, y, j.high));
    }

-- a place between two others is not outside a span if neither of them is
pub span_between : (s : Span) (d : Side) (p : ℤ) (m n : ℕ) → outside_span s (p +ℤ along d n) ≡ false → outside_span s p ≡ false → m ≤ n → outside_span s (p +ℤ along d m) ≡ false
span_between s d p m n e o h = not_outside s (p +ℤ along d m) (inside_between s d p m n h (inside s p o) (inside s (p +ℤ along d n) e))
