-- Where rows of depths end: a row that rises ends at its last depth, a row of pieces at their sum, a row of roots at the root of the last sum; and a row of roots rises
-- where its first depth does.
-- Assumes nothing.
use mathlib.Core.Path.{◌≡◌, refl, sym, ap, subst, ◌∙◌}
use mathlib.Core.Bool.{false}
use mathlib.Core.List.{List, [], ◌∷◌}
use Prim.Native.Nat.{ℕ, zero, suc, ◌+◌, ◌-◌, ◌*◌, ◌/◌, ◌≤◌, ◌<◌, ◌^◌}
use native.Mathlib.Nat.{le-div_iff_mul-le, div-add-mod}
use native.Mathlib.Omega.{arith}
use lib.ListN.{get_or}
use Rattle.division.specs.declared.Pieces.{Pieces}
use Rattle.division.specs.Division.{sum}
use Rattle.division.specs.Carried.{row_of}
use Rattle.roots.proofs.Rooting.{root_mono}
use Rattle.cuts.specs.declared.Falling.{Falling}
use Rattle.cuts.specs.declared.Cuts.{Cuts}
use Rattle.cuts.specs.declared.Cuts.TheVariants.{Even, ByDepth, ByNumber}
use Rattle.depths.specs.Depths.{running}
use Rattle.depths.specs.Promised.{Rises}
use Rattle.cuts.specs.Cuts.{rooted, up_to, shared, rest_of, over, Summed, Sound, Makes}
use Rattle.threadable.specs.Ends.{last_of, deepest, Rising, only_last}

-- ---- a row that rises
pub rises_to_last : (e x : ℕ) (ys : List ℕ) → Rises e x ys → e ≡ last_of x ys
unfolding Rises last_of
rises_to_last e x [] h = sym h
rises_to_last e x (y ∷ ys) h = rises_to_last e y ys h.1

rises_first : (e x : ℕ) {y : ℕ} {rest row : List ℕ} → row ≡ y ∷ rest → Rises e x row → x ≤ y
unfolding Rises
rises_first e x is h = (subst (Rises e x) is h).0

-- ---- the pieces of a division
last_running : (x : ℕ) (ps : List ℕ) → last_of x (running x ps) ≡ x + sum ps
unfolding last_of running
last_running x [] = omega arith
last_running x (p ∷ ps) = omega (arith, last_running (x + p) ps)

running_rises : (x : ℕ) (ps : List ℕ) → Rises (last_of x (running x ps)) x (running x ps)
unfolding Rises last_of running
running_rises x [] = refl
running_rises x (p ∷ ps) = (omega arith, running_rises (x + p) ps)

-- ---- the roots of sums
first_of : {x y : ℕ} {xs ys : List ℕ} → x ∷ xs ≡ y ∷ ys → x ≡ y
first_of e = ap (λ (l : List ℕ). get_or l 0 0) e

module _ (f : ℕ → ℕ) (s : ℕ) where
  last_rooted : (t n x : ℕ) → 0 < n → last_of x (rooted f s t n) ≡ f (t + n * s)
  unfolding last_of rooted
  last_rooted t zero x h = absurd (omega arith)
  last_rooted t (suc zero) x h = let one : t + s ≡ t + 1 * s = omega arith in ap f one
  last_rooted t (suc (suc n)) x h =
      let more : t + s + suc n * s ≡ t + suc (suc n) * s = omega arith in last_rooted (t + s) (suc n) (f (t + s)) (omega arith) ∙ ap f more

  rooted_rises : ((t : ℕ) → f t ≤ f (t + s)) → (t n x : ℕ) → x ≤ f (t + s) → Rises (last_of x (rooted f s t n)) x (rooted f s t n)
  unfolding Rises last_of rooted
  rooted_rises m t zero x h = refl
  rooted_rises m t (suc n) x h = (h, rooted_rises m (t + s) n (f (t + s)) (m (t + s)))

  rooted_first : ((t : ℕ) → f t ≤ f (t + s)) → (t n x : ℕ) {y : ℕ} {rest : List ℕ} → rooted f s t n ≡ y ∷ rest → x ≤ y → Rises (last_of x (rooted f s t n)) x (rooted f s t n)
  unfolding Rises last_of rooted
  rooted_first m t zero x is h = refl
  rooted_first m t (suc n) x is h = rooted_rises m t (suc n) x (omega (arith, first_of is, h))

-- neither kind of falling depth is less where more is under the root
up_to_rises : (e s t : ℕ) → up_to e t ≤ up_to e (t + s)
up_to_rises e s t = omega (arith, root_mono t (t + s) (omega arith))

shared_rises : (d s t : ℕ) → 0 < d → shared d t ≤ shared d (t + s)
shared_rises d s t h = root_mono (t / d) ((t + s) / d) ((le-div_iff_mul-le {k = d} {x = t / d} {y = t + s} h).1 (omega (arith, div-add-mod t d)))

-- ---- THE CUTS RISE WHERE THE FIRST DEPTH DOES
pub first_rises : (x : ℕ) (c : Cuts) {y : ℕ} {rest : List ℕ} → Sound x c → rest_of x c ≡ y ∷ rest → x ≤ y → Rising x c
unfolding rest_of
first_rises x (Even p) sound is h = running_rises x (row_of p)
first_rises x (ByDepth f) sound is h = rooted_first (up_to f.d6) f.square (up_to_rises f.d6 f.square) f.sum f.left x is h
first_rises x (ByNumber f) sound is h = rooted_first (shared f.d3) f.square (λ t. shared_rises f.d3 f.square t sound.0) f.sum f.left x is h

-- and only there
pub first_risen : (x : ℕ) (c : Cuts) {y : ℕ} {rest : List ℕ} → rest_of x c ≡ y ∷ rest → Rising x c → x ≤ y
first_risen x c is h = rises_first (deepest x c) x is h

-- none is left: they end where they are
pub none_deepest : (x : ℕ) (c : Cuts) → rest_of x c ≡ [] → x ≡ deepest x c
unfolding last_of
none_deepest x c is = sym (ap (last_of x) is)

pub none_rises : (x : ℕ) (c : Cuts) → rest_of x c ≡ [] → Rising x c
unfolding last_of Rises
none_rises x c is = subst (λ (row : List ℕ). Rises (last_of x row) x row) (sym is) refl

-- ---- THE DEEPEST CUT
pub even_deepest : (x : ℕ) (p : Pieces) {n : ℕ} → n ≡ sum (row_of p) → x + n ≡ deepest x (Even p)
unfolding rest_of
even_deepest x p is = omega (arith, is, last_running x (row_of p))

-- of falling cuts: the last alone is left, and its depth is asked for
module _ (f : Falling) (some : 0 < f.left) where
  all_squares : f.sum + (f.left - 1) * f.square + f.square ≡ f.sum + f.left * f.square
  all_squares =
      let all : suc (f.left - 1) * f.square ≡ f.left * f.square = ap (λ (n : ℕ). n * f.square) (less f.left some) in
      omega arith
    where
      less : (n : ℕ) → 0 < n → suc (n - 1) ≡ n
      less n h = omega arith

  pub others_fit : Summed f → f.sum + (f.left - 1) * f.square < 2 ^ 64
  others_fit s = omega (arith, s, all_squares)

  module _ {g : Falling} (is : g ≡ only_last f) where
    pub only_last_sound : Summed f → Summed g
    only_last_sound s = subst Summed (sym is) (omega (arith, s, all_squares))

    pub by_depth_going : over (ByDepth g) ≡ false
    unfolding over
    by_depth_going = ap (λ (g : Falling). over (ByDepth g)) is

    pub by_number_going : over (ByNumber g) ≡ false
    unfolding over
    by_number_going = ap (λ (g : Falling). over (ByNumber g)) is

    pub same_number : 0 < f.d3 → 0 < g.d3
    same_number h = subst (λ (g : Falling). 0 < g.d3) (sym is) h

    pub by_depth_deepest : (x : ℕ) {made : ℕ} {behind : Cuts} → Makes x (ByDepth g) made behind → made ≡ deepest x (ByDepth f)
    unfolding rest_of rooted
    by_depth_deepest x m =
        let F = up_to f.d6 in
        sym (first_of (ap (λ (g : Falling). rest_of x (ByDepth g)) (sym is) ∙ m.first)) ∙ ap F all_squares ∙ sym (last_rooted F f.square f.sum f.left x some)

    pub by_number_deepest : (x : ℕ) {made : ℕ} {behind : Cuts} → Makes x (ByNumber g) made behind → made ≡ deepest x (ByNumber f)
    unfolding rest_of rooted
    by_number_deepest x m =
        let F = shared f.d3 in
        sym (first_of (ap (λ (g : Falling). rest_of x (ByNumber g)) (sym is) ∙ m.first)) ∙ ap F all_squares ∙ sym (last_rooted F f.square f.sum f.left x some)
