-- The points of an arc, said by the direction of travel, and the sweep of its test: where a point lies on the way, it does not lie behind the start, or the end not behind it, as the sweep
-- asks.
-- Assumes nothing.
use mathlib.Core.Path.{◌≡◌, refl, sym, ap, ◌∙◌}
use mathlib.Core.Bool.{Bool, true, false, cond, ◌&&◌, ◌||◌, true≢false}
use mathlib.Core.Logic.{◌⊎◌, inl, inr}
use Prim.Native.Nat.{ℕ, ◌*◌, ◌<◌}
use native.Mathlib.Omega.{arith}
use lib.Dec.{ltb, eqb}
use lib.IntN.{ℤ, pos, negsuc, neg_ℤ, nat_abs, ◌+ℤ◌, ◌*ℤ◌}
use lib.Signed.{lt_z, le_z}
use Rattle.whole.proofs.Integers.{whole, add_in, up_neg, down_neg}
use Rattle.arcs.specs.declared.Arc.{Arc}
use Rattle.arrows.specs.declared.Arrow.{Arrow}
use Rattle.arrows.specs.Arrows.{square, cross, dot, ahead}
use Rattle.sweeps.specs.declared.Sweep.{Sweep}
use Rattle.sweeps.specs.declared.Sweep.TheVariants.{Full, Nothing, Short, Long}
use Rattle.sweeps.specs.declared.Quadrant.TheVariants.{East}
use Rattle.arcs.specs.Arcs.{start_of, end_of}
use Rattle.sweeps.specs.Sweeps.{is_full, sweep, sweep_of}
use Rattle.straying.specs.Points.{stage, no_later}
use Rattle.arrows.proofs.Differences.{self, prod, neg, same}
use Rattle.arrows.proofs.Signs.{Neg, Pos, NonNeg, NonPos, Sign, minus, nought, plus, sign, zero_l, pp, pn, np<}
use Rattle.arrows.proofs.Plane.{pull}
use Rattle.sweeps.proofs.Quadrants.{lie}
use Rattle.sweeps.proofs.Sweeps.{cross_back, dot_back}

-- ---- three arrows, in either direction
neg_mul : (a b : ℤ) → neg_ℤ a *ℤ b ≡ neg_ℤ (a *ℤ b)
neg_mul a b = let x = self a in let y = self b in same (prod (neg x) y) (neg (prod x y)) (omega arith)

-- a product seen from the other side
back_mul : (a b : Arrow) (n : ℤ) → cross b a *ℤ n ≡ neg_ℤ (cross a b *ℤ n)
back_mul a b n = ap (λ (z : ℤ). z *ℤ n) (cross_back a b) ∙ neg_mul (cross a b) n

pulled : (clockwise : Bool) (s e p : Arrow) → ahead clockwise s p *ℤ dot s e +ℤ ahead clockwise p e *ℤ dot s s ≡ ahead clockwise s e *ℤ dot p s
unfolding ahead dot
pulled false s e p = pull (lie East s e p)
pulled true s e p =
    let h = pull (lie East s e p) in
    let x = back_mul s p (dot s e) in
    let y = back_mul p e (dot s s) in
    let w = back_mul s e (dot p s) in
    omega (
      whole,
      add_in (cross s p *ℤ dot s e) (cross p e *ℤ dot s s),
      add_in (cross p s *ℤ dot s e) (cross e p *ℤ dot s s),
      up_neg (cross s p *ℤ dot s e),
      down_neg (cross s p *ℤ dot s e),
      up_neg (cross p e *ℤ dot s s),
      down_neg (cross p e *ℤ dot s s),
      up_neg (cross s e *ℤ dot p s),
      down_neg (cross s e *ℤ dot p s),
    )

-- an arrow that has a length
pub long : (s : Arrow) → 0 < square s → Pos (dot s s)
unfolding square dot
long s h = omega (whole, add_in (s.right *ℤ s.right) (s.up *ℤ s.up), is s.right, is s.up)
  where
    is : (z : ℤ) → z *ℤ z ≡ pos (nat_abs z * nat_abs z)
    is (pos n) = refl
    is (negsuc n) = refl

-- ---- stages
pub data Stage (a d : ℤ) : ℕ → Type 0 where
  on_ray : a ≡ pos 0 → Pos d → Stage a d 0
  within : Pos a → Stage a d 1
  opposite : a ≡ pos 0 → NonPos d → Stage a d 2
  behind : Neg a → Stage a d 3

pub stage_is : (clockwise : Bool) (s p : Arrow) → Stage (ahead clockwise s p) (dot s p) (stage clockwise s p)
unfolding stage
stage_is c s p = go (lt_z (pos 0) (ahead c s p)) refl (lt_z (ahead c s p) (pos 0)) refl (lt_z (pos 0) (dot s p)) refl
  where
    go : (t : Bool) → lt_z (pos 0) (ahead c s p) ≡ t → (u : Bool) → lt_z (ahead c s p) (pos 0) ≡ u → (v : Bool) → lt_z (pos 0) (dot s p) ≡ v
        → Stage (ahead c s p) (dot s p) (cond t 1 (cond u 3 (cond v 0 2)))
    go true e u f v g = within (omega whole)
    go false e true f v g = behind (omega whole)
    go false e false f true g = on_ray (omega whole) (omega whole)
    go false e false f false g = opposite (omega whole) (omega whole)

-- how far an arc goes, by the stage of its end
data Goes : ℕ → Sweep → Type 0 where
  nothing : Goes 0 Nothing
  short : Goes 1 Short
  half : Goes 2 Short
  far : Goes 3 Long

goes : (clockwise : Bool) (s e : Arrow) → Goes (stage clockwise s e) (sweep clockwise s e)
unfolding stage sweep
goes c s e = go (lt_z (pos 0) (ahead c s e)) refl (lt_z (ahead c s e) (pos 0)) refl (lt_z (pos 0) (dot s e))
  where
    go : (t : Bool) → lt_z (pos 0) (ahead c s e) ≡ t → (u : Bool) → lt_z (ahead c s e) (pos 0) ≡ u → (v : Bool) → Goes (cond t 1 (cond u 3 (cond v 0 2))) (cond u Long (cond t Short (cond v Nothing Short)))
    go true e true f v = absurd (omega whole)
    go true e false f v = short
    go false e true f v = far
    go false e false f true = nothing
    go false e false f false = half

-- ---- on the way
abbrev pub Way : Sweep → Bool → Arrow → Arrow → Arrow → Type 0
Way Full c s e p = Unit {0}
Way Nothing c s e p = (ahead c s p ≡ pos 0) × Pos (dot s p)
Way Short c s e p = NonNeg (ahead c s p) × NonNeg (ahead c p e)
Way Long c s e p = NonNeg (ahead c s p) ⊎ NonNeg (ahead c p e)

module _ (c : Bool) (s e p : Arrow) (some : 0 < square s) where
  -- the end is not behind what stands on the start's ray
  past_ray : NonNeg (ahead c s e) → ahead c s p ≡ pos 0 → Pos (dot s p) → Sign (ahead c p e) → NonNeg (ahead c p e)
  past_ray w x d (minus y) =
      let d' : NonNeg (dot p s) = omega (whole, dot_back s p) in
      absurd (omega (whole, pulled c s e p, add_in (ahead c s p *ℤ dot s e) (ahead c p e *ℤ dot s s), zero_l (ahead c s p) (dot s e) x, np< (ahead c p e) (dot s s) y (long s some), pp (ahead c s e) (dot p s) w d'))
  past_ray w x d (nought y) = omega whole
  past_ray w x d (plus y) = omega whole

  -- nor, at half a turn, behind what stands before that
  before_half : ahead c s e ≡ pos 0 → NonPos (dot s e) → NonNeg (ahead c s p) → Sign (ahead c p e) → NonNeg (ahead c p e)
  before_half w d x (minus y) =
      absurd (omega (whole, pulled c s e p, add_in (ahead c s p *ℤ dot s e) (ahead c p e *ℤ dot s s), zero_l (ahead c s e) (dot p s) w, np< (ahead c p e) (dot s s) y (long s some), pn (ahead c s p) (dot s e) x d))
  before_half w d x (nought y) = omega whole
  before_half w d x (plus y) = omega whole

  core : {n m : ℕ} {w : Sweep} → Goes n w → Stage (ahead c s e) (dot s e) n → Stage (ahead c s p) (dot s p) m → (y : Bool) → le_z (pos 0) (ahead c p e) ≡ y
      → (ltb m n || (eqb m n && y)) ≡ true → Way w c s e p
  core nothing (on_ray w d) (on_ray x f) y g h = (x, f)
  core nothing (on_ray w d) (within x) y g h = absurd (true≢false (sym h))
  core nothing (on_ray w d) (opposite x f) y g h = absurd (true≢false (sym h))
  core nothing (on_ray w d) (behind x) y g h = absurd (true≢false (sym h))
  core short (within w) (on_ray x f) y g h = (omega whole, past_ray (omega whole) x f (sign (ahead c p e)))
  core short (within w) (within x) true g h = (omega whole, omega whole)
  core short (within w) (within x) false g h = absurd (true≢false (sym h))
  core short (within w) (opposite x f) y g h = absurd (true≢false (sym h))
  core short (within w) (behind x) y g h = absurd (true≢false (sym h))
  core half (opposite w d) (on_ray x f) y g h = (omega whole, past_ray (omega whole) x f (sign (ahead c p e)))
  core half (opposite w d) (within x) y g h = (omega whole, before_half w d (omega whole) (sign (ahead c p e)))
  core half (opposite w d) (opposite x f) true g h = (omega whole, omega whole)
  core half (opposite w d) (opposite x f) false g h = absurd (true≢false (sym h))
  core half (opposite w d) (behind x) y g h = absurd (true≢false (sym h))
  core far (behind w) (on_ray x f) y g h = inl (omega whole)
  core far (behind w) (within x) y g h = inl (omega whole)
  core far (behind w) (opposite x f) y g h = inl (omega whole)
  core far (behind w) (behind x) true g h = inr (omega whole)
  core far (behind w) (behind x) false g h = absurd (true≢false (sym h))

  by_stages : no_later c s e p ≡ true → Way (sweep c s e) c s e p
  unfolding no_later
  by_stages h = core (goes c s e) (stage_is c s e) (stage_is c s p) (le_z (pos 0) (ahead c p e)) refl h

pub on_the_way : (a : Arc) (p : Arrow) → 0 < square (start_of a) → (is_full a || no_later a.clockwise (start_of a) (end_of a) p) ≡ true → Way (sweep_of a) a.clockwise (start_of a) (end_of a) p
unfolding sweep_of
on_the_way a p some = go (is_full a)
  where
    go : (t : Bool) → (t || no_later a.clockwise (start_of a) (end_of a) p) ≡ true → Way (cond t Full (sweep a.clockwise (start_of a) (end_of a))) a.clockwise (start_of a) (end_of a) p
    go true h = tt
    go false h = by_stages a.clockwise (start_of a) (end_of a) p some h
