-- What a bore that is not wrong has: a percentage up to 100, a stroke, and bites above 0.
-- Assumes nothing.
use mathlib.Core.Path.{◌≡◌, refl, sym, ap, ◌∙◌}
use mathlib.Core.Bool.{Bool, true, false, ◌||◌, or-true}
use mathlib.Core.List.{List, [], ◌∷◌}
use Prim.Native.Nat.{ℕ, zero, suc, ◌≤◌, ◌<◌}
use native.Mathlib.Omega.{arith}
use lib.Dec.{ltb, eqb}
use lib.ListN.{length}
use borrow.Author.Tests.{ltb-false, lt-ltb, le-ltb, eq-eqb, ne_eqb}
use lib.IntN.{◌-ℤ◌}
use mir.Syntax.{w32}
use mir.Val.{SFits}
use Rattle.whole.proofs.Integers.{whole, range, sub_in, abs}
use Rattle.division.specs.Division.{sum}
use Rattle.axes.proofs.Places.{neither, both}
use Rattle.drilling.specs.declared.Bore.{Bore}
use Rattle.bites.specs.Bites.{biting, has_zero}
use Rattle.drilling.specs.Drilling.{stroke_of, bites, wrong, bite_count}
use Rattle.bites.proofs.Rows.{some, biting_sum}

pub record Asked (b : Bore) : Type 0 where
  pub part : b.less ≤ 100
  pub long : 0 < stroke_of b
  pub above : has_zero (bites b) ≡ false

pub asked : (b : Bore) → wrong b ≡ false → Asked b
unfolding wrong
asked b e =
    let n = neither (ltb 100 b.less) (eqb (stroke_of b) 0 || has_zero (bites b)) e in
    let m = neither (eqb (stroke_of b) 0) (has_zero (bites b)) n.1 in
    record { part = ltb-false 100 b.less n.0; long = some (stroke_of b) m.0; above = m.1 }

-- ---- the two forms of its row
pub one_bite : (b : Bore) → b.first ≡ 0 → bites b ≡ stroke_of b ∷ []
unfolding bites
one_bite b e = rw (eq-eqb b.first 0 e) refl

pub more_bites : (b : Bore) → (b.first ≡ 0 → ⊥) → bites b ≡ biting b.less b.least b.first (stroke_of b) (stroke_of b)
unfolding bites
more_bites b e = rw (ne_eqb b.first 0 e) refl

-- ---- THE BITES ADD UP TO THE STROKE
pub bites_sum : (b : Bore) → wrong b ≡ false → sum (bites b) ≡ stroke_of b
bites_sum b e = go b.first refl
  where
    go : (n : ℕ) → b.first ≡ n → sum (bites b) ≡ stroke_of b
    go zero z = ap sum (one_bite b z) ∙ omega arith
    go (suc n) z =
        let m = more_bites b (λ w. omega arith) in
        ap sum m ∙ biting_sum b.less b.least b.first (stroke_of b) (stroke_of b) (omega arith) (sym (ap has_zero m) ∙ (asked b e).above)

-- there is a bite
pub some_bites : (b : Bore) → wrong b ≡ false → 0 < length (bites b)
some_bites b e = go (bites b) (bites_sum b e)
  where
    go : (ds : List ℕ) → sum ds ≡ stroke_of b → 0 < length ds
    go [] z = absurd (omega (arith, (asked b e).long))
    go (d ∷ ds) z = omega arith

-- and no more bites than units
few_bites : (ds : List ℕ) → has_zero ds ≡ false → length ds ≤ sum ds
unfolding has_zero
few_bites [] e = omega arith
few_bites (d ∷ ds) e = let n = neither (eqb d 0) (has_zero ds) e in omega (arith, few_bites ds n.1, some d n.0)

pub bites_few : (b : Bore) → wrong b ≡ false → bite_count b ≤ stroke_of b
bites_few b e = omega (arith, few_bites (bites b) (asked b e).above, bites_sum b e)

-- ---- what alarm 19 answers
pub wrong_part : (b : Bore) → 100 < b.less → wrong b ≡ true
unfolding wrong
wrong_part b h = ap (λ (t : Bool). t || (eqb (stroke_of b) 0 || has_zero (bites b))) (lt-ltb 100 b.less h)

pub wrong_stroke : (b : Bore) → stroke_of b ≡ 0 → wrong b ≡ true
unfolding wrong
wrong_stroke b e = ap (λ (t : Bool). ltb 100 b.less || (t || has_zero (bites b))) (eq-eqb (stroke_of b) 0 e) ∙ or-true (ltb 100 b.less)

pub wrong_bites : (b : Bore) → b.less ≤ 100 → 0 < stroke_of b → wrong b ≡ has_zero (bites b)
unfolding wrong
wrong_bites b h s =
    ap (λ (t : Bool). t || (eqb (stroke_of b) 0 || has_zero (bites b))) (le-ltb 100 b.less h)
    ∙ ap (λ (t : Bool). t || has_zero (bites b)) (ne_eqb (stroke_of b) 0 (λ z. omega arith))

pub one_above : (b : Bore) → 0 < stroke_of b → b.first ≡ 0 → has_zero (bites b) ≡ false
unfolding has_zero
one_above b s e = ap has_zero (one_bite b e) ∙ both (eqb (stroke_of b) 0) false (ne_eqb (stroke_of b) 0 (λ z. omega arith)) refl

-- ---- a stroke between two places that fit fits
pub stroke_fits : (b : Bore) → SFits w32 b.start → SFits w32 b.target → stroke_of b < 4_294_967_296
stroke_fits b f g =
    let x = range f in let y = range g in let d = sub_in b.target b.start in let m = abs (b.target -ℤ b.start) in omega whole
