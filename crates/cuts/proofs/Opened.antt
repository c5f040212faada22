-- Cuts that are opened have the depths of their row, each depth that is handed out is the first of those that are left, and what is over has none.
-- Assumes nothing.
use mathlib.Core.Path.{◌≡◌, refl, sym, ap, subst, ◌∙◌}
use mathlib.Core.Bool.{true, false}
use mathlib.Core.List.{[], ◌∷◌}
use Prim.Native.Nat.{ℕ, zero, suc, ◌+◌, ◌-◌, ◌*◌, ◌/◌, ◌≤◌, ◌<◌, ◌^◌, min}
use native.Mathlib.Nat.{mul-le-mul, mul_comm}
use native.Mathlib.Omega.{arith}
use lib.Dec.{eqb}
use borrow.Author.Tests.{eqb-true, eqb-false}
use Rattle.division.specs.declared.Pieces.{Pieces}
use Rattle.division.specs.Division.{pieces, divided, sum}
use Rattle.division.specs.Carried.{row_of}
use Rattle.division.proofs.Divisions.{pieces_sum}
use Rattle.division.proofs.Carrying.{none_left}
use Rattle.roots.specs.Roots.{root}
use Rattle.cuts.specs.declared.Falling.{Falling}
use Rattle.cuts.specs.declared.Cuts.{Cuts}
use Rattle.cuts.specs.declared.Cuts.TheVariants.{Even, ByDepth, ByNumber}
use Rattle.depths.specs.declared.Rule.{Rule}
use Rattle.depths.specs.declared.Rule.TheVariants.{EvenDepth, EvenNumber, FallingDepth, FallingNumber}
use Rattle.depths.specs.Depths.{greatest_d, running, by_depth, by_number, cuts, cut_count, depths, Proper}
use Rattle.cuts.specs.Cuts.{rooted, up_to, shared, rest_of, over, one_more, falling_from, Summed, Sound, Makes}
use Rattle.depths.proofs.Kept.{some_cut, few_cuts}

-- ---- cuts that are opened
abbrev pub Opens : Rule → ℕ → ℕ → Cuts → Type 0
Opens r d e c = (rest_of 0 c ≡ depths r d e) × Sound 0 c

rooted_cuts : (f : ℕ → ℕ) (s k t n : ℕ) → t ≡ k * s → cuts (λ j. f (j * s)) (suc k) n ≡ rooted f s t n
unfolding cuts rooted
rooted_cuts f s k t zero h = refl
rooted_cuts f s k t (suc n) h =
    let next : t + s ≡ suc k * s = omega arith in
    λ i. f (sym next i) ∷ rooted_cuts f s (suc k) (t + s) n next i

cuts_alike : (f g : ℕ → ℕ) → ((k : ℕ) → f k ≡ g k) → (k n : ℕ) → cuts f k n ≡ cuts g k n
unfolding cuts
cuts_alike f g h k zero = refl
cuts_alike f g h k (suc n) = λ i. h k i ∷ cuts_alike f g h (suc k) n i

-- what so many squares make fits
summed : (d e side n : ℕ) → side ≤ greatest_d → n ≤ greatest_d * greatest_d → Summed (falling_from d e side n)
summed d e side n h k = omega (arith, mul-le-mul k (mul-le-mul h h))

-- by each rule, n being the count
module _ (d e n : ℕ) (hd : d ≤ greatest_d) (he : e ≤ greatest_d) where
  pub opens_even_depth : (p : Pieces) → Proper EvenDepth d e → n ≡ cut_count EvenDepth d e → row_of p ≡ pieces e n → Opens EvenDepth d e (Even p)
  unfolding rest_of depths cut_count divided
  opens_even_depth p h c is =
      (ap (running 0) (is ∙ ap (pieces e) c), omega (arith, ap sum is, pieces_sum e n (omega (arith, c, some_cut EvenDepth d e h))))

  pub opens_even_number : (p : Pieces) → Proper EvenNumber d e → n ≡ cut_count EvenNumber d e → row_of p ≡ pieces e n → Opens EvenNumber d e (Even p)
  unfolding rest_of depths cut_count
  opens_even_number p h c is = (ap (running 0) (is ∙ ap (pieces e) c), omega (arith, ap sum is, pieces_sum e n (omega (arith, c, h.d3))))

  pub opens_by_depth : {f : Falling} → Proper FallingDepth d e → n ≡ cut_count FallingDepth d e → f ≡ falling_from d e d n → Opens FallingDepth d e (ByDepth f)
  unfolding rest_of depths
  opens_by_depth h c is =
      subst (λ (f : Falling). Opens FallingDepth d e (ByDepth f)) (sym is)
      (sym (rooted_cuts (up_to e) (d * d) 0 0 n (omega arith)) ∙ ap (cuts (λ k. min e (by_depth d k)) 1) c, summed d e d n hd (omega (arith, c, few_cuts FallingDepth d e h hd he)))

  pub opens_by_number : {f : Falling} → Proper FallingNumber d e → n ≡ cut_count FallingNumber d e → f ≡ falling_from d e e n → Opens FallingNumber d e (ByNumber f)
  unfolding rest_of depths cut_count
  opens_by_number h c is =
      subst (λ (f : Falling). Opens FallingNumber d e (ByNumber f)) (sym is)
      (sym (cuts_alike (by_number d e) (λ k. shared d (k * (e * e))) (λ k. ap (λ (m : ℕ). root (m / d)) (mul_comm (e * e) k)) 1 n ∙ rooted_cuts (shared d) (e * e) 0 0 n (omega arith)) ∙ ap (cuts (by_number d e) 1) c, (h.d3, summed d e e n he (omega arith)))

-- ---- one depth
pub makes_even : (x : ℕ) (p q : Pieces) (d : ℕ) → Sound x (Even p) → row_of p ≡ d ∷ row_of q → Makes x (Even p) (x + d) (Even q)
unfolding rest_of running
makes_even x p q d s is = record { first = ap (running x) is; sound = omega (arith, ap sum is) }

rooted_first : (f : ℕ → ℕ) (s t n : ℕ) → 0 < n → rooted f s t n ≡ f (t + s) ∷ rooted f s (t + s) (n - 1)
unfolding rooted
rooted_first f s t zero h = absurd (omega arith)
rooted_first f s t (suc n) h = let less : n ≡ suc n - 1 = omega arith in ap (λ (m : ℕ). f (t + s) ∷ rooted f s (t + s) m) less

module _ (f : Falling) (sound : Summed f) (some : 0 < f.left) where
  -- the sum with one square more fits, and so do all that are left
  summed_next : Summed (one_more f)
  summed_next =
      let all : suc (f.left - 1) * f.square ≡ f.left * f.square = ap (λ (n : ℕ). n * f.square) (less f.left some) in
      omega (arith, sound)
    where
      less : (n : ℕ) → 0 < n → suc (n - 1) ≡ n
      less n h = omega arith

  pub sum_fits : f.sum + f.square < 2 ^ 64
  sum_fits = omega (arith, summed_next)

  pub makes_by_depth : (x : ℕ) {made : ℕ} {g : Falling} → g ≡ one_more f → made ≡ min f.d6 (root g.sum) → Makes x (ByDepth f) made (ByDepth g)
  unfolding rest_of
  makes_by_depth x {g = g} b m = record {
    first = rooted_first (up_to f.d6) f.square f.sum f.left some
        ∙ (λ i. up_to f.d6 (sym b i).sum ∷ rest_of x (ByDepth (sym b i)))
        ∙ ap (λ (n : ℕ). n ∷ rest_of x (ByDepth g)) (sym m);
    sound = subst Summed (sym b) summed_next;
  }

  pub makes_by_number : (x : ℕ) {made : ℕ} {g : Falling} → 0 < f.d3 → g ≡ one_more f → made ≡ root (g.sum / f.d3) → Makes x (ByNumber f) made (ByNumber g)
  unfolding rest_of
  makes_by_number x {g = g} p b m = record {
    first = rooted_first (shared f.d3) f.square f.sum f.left some
        ∙ (λ i. shared f.d3 (sym b i).sum ∷ rest_of x (ByNumber (sym b i)))
        ∙ ap (λ (n : ℕ). n ∷ rest_of x (ByNumber g)) (sym m);
    sound = (subst (λ (g : Falling). 0 < g.d3) (sym b) p, subst Summed (sym b) summed_next);
  }

-- ---- none is left
pub rest_none : (x : ℕ) (c : Cuts) → over c ≡ true → rest_of x c ≡ []
unfolding over rest_of rooted running
rest_none x (Even p) e = ap (running x) (none_left p (eqb-true p.left 0 e))
rest_none x (ByDepth f) e = ap (rooted (up_to f.d6) f.square f.sum) (eqb-true f.left 0 e)
rest_none x (ByNumber f) e = ap (rooted (shared f.d3) f.square f.sum) (eqb-true f.left 0 e)

-- and before one is over, some is left
pub not_none : (n : ℕ) → eqb n 0 ≡ false → 0 < n
not_none zero h = absurd (eqb-false 0 0 h refl)
not_none (suc n) h = omega arith

pub some_even : (p : Pieces) → over (Even p) ≡ false → 0 < p.left
unfolding over
some_even p e = not_none p.left e

pub some_by_depth : (f : Falling) → over (ByDepth f) ≡ false → 0 < f.left
unfolding over
some_by_depth f e = not_none f.left e

pub some_by_number : (f : Falling) → over (ByNumber f) ≡ false → 0 < f.left
unfolding over
some_by_number f e = not_none f.left e

-- ---- cuts c that were matched to d
module _ (x : ℕ) {c d : Cuts} (is : c ≡ d) where
  pub sound_of : Sound x c → Sound x d
  sound_of s = subst (Sound x) is s

  pub going_of : over c ≡ false → over d ≡ false
  going_of e = ap over (sym is) ∙ e

  pub makes_of : {made : ℕ} {behind : Cuts} → Makes x d made behind → Makes x c made behind
  makes_of {made} {behind} m = subst (λ (c : Cuts). Makes x c made behind) (sym is) m
