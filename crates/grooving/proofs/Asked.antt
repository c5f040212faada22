-- What a groove that is not wrong has: its target lies below its start on the width axis, it has a depth, the tool goes into it, and a tool that does not fill it is
-- wider than the overlap.
-- Assumes nothing.
use mathlib.Core.Path.{◌≡◌, refl, sym, subst}
use mathlib.Core.Bool.{Bool, true, false, ◌&&◌, ◌||◌}
use Prim.Native.Nat.{ℕ, zero, suc, ◌<◌, ◌≤◌}
use native.Mathlib.Omega.{arith}
use lib.Dec.{T, leb, ltb, eqb}
use lib.IntN.{◌+ℤ◌, ◌-ℤ◌}
use lib.Signed.{le_z, ◌<ℤ◌}
use mir.Syntax.{w32}
use mir.Val.{SFits}
use borrow.Author.Tests.{ltb-false, lt-ltb, leb-false, eqb-false}
use Rattle.whole.specs.declared.Side.TheVariants.{Minus}
use Rattle.whole.specs.Signed.{along}
use Rattle.whole.proofs.Integers.{whole, sub_in}
use Rattle.whole.proofs.Sides.{is_minus, toward}
use Rattle.grooving.specs.declared.Groove.{Groove}
use Rattle.grooving.specs.Grooving.{length_of, way_of, wrong}

pub record Asked (g : Groove) : Type 0 where
  pub below : g.width.target <ℤ g.width.start
  pub deep : 0 < length_of g.depth
  pub wide : g.tool ≤ length_of g.width
  pub thick : g.tool < length_of g.width → g.overlap < g.tool

neither : (a b : Bool) → (a || b) ≡ false → (a ≡ false) × (b ≡ false)
neither true b e = absurd (subst T e tt)
neither false b e = (refl, e)

second : (a b : Bool) → (a && b) ≡ false → a ≡ true → b ≡ false
second true b e h = e
second false b e h = absurd (subst T (sym h) tt)

some : (n : ℕ) → eqb n 0 ≡ false → 0 < n
some zero e = absurd (eqb-false 0 0 e refl)
some (suc n) e = omega arith

pub asked : (g : Groove) → wrong g ≡ false → Asked g
unfolding wrong
asked g e =
    let w = length_of g.width in
    let b : Bool = le_z g.width.start g.width.target in
    let n : Bool = ltb w g.tool in
    let t : Bool = ltb g.tool w && leb g.tool g.overlap in
    let both = neither (b || eqb (length_of g.depth) 0) (n || t) e in
    let first = neither b (eqb (length_of g.depth) 0) both.0 in
    let last = neither n t both.1 in
    let backward : le_z g.width.start g.width.target ≡ false = first.0 in
    record {
      below = omega whole;
      deep = some (length_of g.depth) first.1;
      wide = ltb-false w g.tool last.0;
      thick = λ h. leb-false g.tool g.overlap (second (ltb g.tool w) (leb g.tool g.overlap) last.1 (lt-ltb g.tool w h));
    }

-- so the way of the width goes to the lower side
pub width_minus : (g : Groove) → wrong g ≡ false → way_of g.width ≡ Minus
width_minus g e =
    let h = (asked g e).below in
    sym (is_minus (g.width.target -ℤ g.width.start) (omega (whole, sub_in g.width.target g.width.start)))

-- and what lies on the way to it fits where both do
pub width_fits : (g : Groove) → wrong g ≡ false → SFits w32 g.width.start → SFits w32 g.width.target → (m : ℕ) → m ≤ length_of g.width
    → SFits w32 (g.width.start +ℤ along Minus m)
width_fits g e s t m h = subst (λ d. SFits w32 (g.width.start +ℤ along d m)) (width_minus g e) (toward s t m h)
