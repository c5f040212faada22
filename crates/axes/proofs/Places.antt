-- A place that a cycle names, within the limits or not, and where the records of a cycle end.
-- Assumes nothing.
use mathlib.Core.Path.{◌≡◌, refl, sym, ap, ◌∙◌, subst}
use mathlib.Core.Bool.{Bool, true, false, cond, ◌||◌}
use Prim.Native.Nat.{ℕ}
use lib.Dec.{T}
use lib.IntN.{ℤ}
use Rattle.settings.specs.declared.Span.{Span}
use Rattle.settings.specs.declared.Limits.{Limits}
use Rattle.axes.specs.Goes.{rapid_to, feed_to, thread_to, dwell_at}
use Rattle.settings.specs.Limits.{outside_span, outside}
use Rattle.axes.specs.Limits.{outside_to}

-- ---- tests
pub alike : (a b : Bool) → (a ≡ false → b ≡ false) → (b ≡ false → a ≡ false) → a ≡ b
alike true true f g = refl
alike true false f g = g refl
alike false true f g = sym (f refl)
alike false false f g = refl

pub neither : (a b : Bool) → (a || b) ≡ false → (a ≡ false) × (b ≡ false)
neither true b e = absurd (subst T e tt)
neither false b e = (refl, e)

pub both : (a b : Bool) → a ≡ false → b ≡ false → (a || b) ≡ false
both a b e f = ap (λ (t : Bool). t || b) e ∙ f

-- ---- one place, named by the axis that goes in and the one across it
abbrev pub in_span : Limits → Bool → Span
in_span l facing = cond facing l.z l.x

abbrev pub across_span : Limits → Bool → Span
across_span l facing = cond facing l.x l.z

pub record Within (l : Limits) (facing : Bool) (i a : ℤ) : Type 0 where
  pub inward : outside_span (in_span l facing) i ≡ false
  pub across : outside_span (across_span l facing) a ≡ false

pub within : (l : Limits) (facing : Bool) (i a : ℤ) → outside_to l facing i a ≡ false → Within l facing i a
unfolding outside
within l true i a e = let n = neither (outside_span l.x a) (outside_span l.z i) e in record { inward = n.1; across = n.0 }
within l false i a e = let n = neither (outside_span l.x i) (outside_span l.z a) e in record { inward = n.0; across = n.1 }

pub not_outside : (l : Limits) (facing : Bool) (i a : ℤ) → Within l facing i a → outside_to l facing i a ≡ false
unfolding outside
not_outside l true i a w = both (outside_span l.x a) (outside_span l.z i) w.across w.inward
not_outside l false i a w = both (outside_span l.x i) (outside_span l.z a) w.inward w.across

-- ---- where a record ends
pub rapid_ends : (l : Limits) (facing : Bool) (i a : ℤ) → outside l (rapid_to facing i a).x (rapid_to facing i a).z ≡ outside_to l facing i a
unfolding rapid_to
rapid_ends l true i a = refl
rapid_ends l false i a = refl

pub feed_ends : (l : Limits) (facing : Bool) (f : ℕ) (g95 : Bool) (i a : ℤ) → outside l (feed_to facing f g95 i a).x (feed_to facing f g95 i a).z ≡ outside_to l facing i a
unfolding feed_to
feed_ends l true f g95 i a = refl
feed_ends l false f g95 i a = refl

pub thread_ends : (l : Limits) (facing : Bool) (pitch : ℕ) (i a : ℤ) → outside l (thread_to facing pitch i a).x (thread_to facing pitch i a).z ≡ outside_to l facing i a
unfolding thread_to
thread_ends l true pitch i a = refl
thread_ends l false pitch i a = refl

pub dwell_ends : (l : Limits) (facing : Bool) (t : ℕ) (i a : ℤ) → outside l (dwell_at facing t i a).x (dwell_at facing t i a).z ≡ outside_to l facing i a
unfolding dwell_at
dwell_ends l true t i a = refl
dwell_ends l false t i a = refl
