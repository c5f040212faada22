-- What cuts add up to, asked without a sum or a product that could wrap.
-- Assumes nothing.
use mathlib.Core.Path.{◌≡◌, refl, sym, ap, subst}
use mathlib.Core.Bool.{Bool, true, false, ◌&&◌, false≢true}
use Prim.Native.Nat.{ℕ, ◌-◌, ◌*◌, ◌/◌, ◌<◌, ◌^◌}
use native.Mathlib.Nat.{le-div_iff_mul-le}
use native.Mathlib.Omega.{arith}
use lib.Dec.{leb, ltb}
use borrow.Author.Tests.{leb-true, le-leb, ltb-true, lt-ltb}
use Rattle.reaching.proofs.Room.{Answers}
use Rattle.division.specs.declared.Pieces.{Pieces}
use Rattle.division.specs.Division.{sum}
use Rattle.division.specs.Carried.{row_of}
use Rattle.cuts.specs.declared.Falling.{Falling}
use Rattle.cuts.specs.declared.Cuts.{Cuts}
use Rattle.cuts.specs.declared.Cuts.TheVariants.{Even, ByNumber}
use Rattle.cuts.specs.Cuts.{Summed, Sound}

abbrev greatest : ℕ
greatest = 18_446_744_073_709_551_615

-- ---- falling cuts
module _ (f : Falling) (held : f.sum < 2 ^ 64) where
  -- squares of nothing add nothing
  pub none_added : f.square ≡ 0 → Summed f
  none_added z = omega (arith, held, ap (λ (m : ℕ). f.left * m) z)

  -- others fit as often as what is left of 64 bits can be divided by one
  pub fit_left : (f.square ≡ 0 → ⊥) → Answers (Summed f) (leb f.left ((greatest - f.sum) / f.square))
  fit_left z =
      let some : 0 < f.square = omega arith in
      let divides = le-div_iff_mul-le {k = f.square} {x = f.left} {y = greatest - f.sum} some in (
        λ y. omega (arith, held, divides.0 (leb-true f.left ((greatest - f.sum) / f.square) y)),
        λ h. le-leb f.left ((greatest - f.sum) / f.square) (divides.1 (omega (arith, held, h))),
      )

both : {P Q : Type 0} {s t : Bool} → Answers P s → Answers Q t → Answers (P × Q) (s && t)
both {P} {Q} {s} {t} p q = (forth s t p q, λ h. λ i. p.1 h.0 i && q.1 h.1 i)
  where
    forth : (s t : Bool) → Answers P s → Answers Q t → (s && t) ≡ true → P × Q
    forth true t p q e = (p.0 refl, q.0 e)
    forth false t p q e = absurd (false≢true e)

-- by number their number is none, or that is asked
pub by_number_adds : (x : ℕ) (f : Falling) {t : Bool} → Answers (Summed f) t → Answers (Sound x (ByNumber f)) (ltb 0 f.d3 && t)
by_number_adds x f a = both (ltb-true 0 f.d3, lt-ltb 0 f.d3) a

-- ---- constant cuts
pub even_adds : (x : ℕ) (p : Pieces) {n : ℕ} → x < 2 ^ 32 → n ≡ sum (row_of p) → Answers (Sound x (Even p)) (ltb n (2 ^ 32 - x))
even_adds x p {n} h is = (λ y. omega (arith, h, is, ltb-true n (2 ^ 32 - x) y), λ s. lt-ltb n (2 ^ 32 - x) (omega (arith, h, is, s)))

-- ---- cuts c that were matched to d
pub answer_of_lem : (x : ℕ) {c d : Cuts} {t : Bool} → c ≡ d → Answers (Sound x d) t → Answers (Sound x c) t
answer_of_lem x {t = t} is a = subst (λ (c : Cuts). Answers (Sound x c) t) (sym is) a
