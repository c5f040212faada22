-- One side of one axis. Two arrows on one side of the axis, that to the place a, b (in q-ths) no nearer to the axis by its angle than that to the end c, g: a reaches at most 10
-- micrometres beyond c, where the lengths differ by no more.
-- Assumes nothing.
use mathlib.Core.Path.{◌≡◌, ap}
use mathlib.Core.Logic.{◌⊎◌, inl, inr}
use Prim.Native.Nat.{ℕ, suc, ◌+◌, ◌*◌, ◌≤◌, ◌<◌}
use native.Mathlib.Omega.{arith}
use native.Mathlib.Nat.{mul-le-mul, mul-le-mul_left, mul-pos}
use lib.IntN.{ℤ, pos, negsuc, nat_abs, ◌+ℤ◌, ◌*ℤ◌}
use lib.Signed.{◌≤ℤ◌, ◌<ℤ◌}
use Rattle.whole.proofs.Integers.{whole}
use Rattle.arrows.specs.Arrows.{slack}
use Rattle.arrows.proofs.Differences.{sum, prod, self, num}
use Rattle.arrows.proofs.Roots.{Near, at_most}

-- both toward the positive side
ahead : (q m n a b c g : ℕ) → 0 < q → 0 < n → Near m n → a * a + b * b ≡ q * q * m → c * c + g * g ≡ n → a * g ≤ c * b → a ≤ q * c + slack * q
ahead q m n a b c g q>0 n>0 h circle end turn =
    let s = mul-le-mul turn turn in
    let e₁ = ap (λ k. c * c * k) circle in
    let e₂ = ap (λ k. a * a * k) end in
    let t : a * a * n ≤ c * c * (q * q * m) = omega arith in
    let u = mul-le-mul_left (q * q) t in
    let v : c * c ≤ n = omega arith in
    let w = mul-le-mul_left (q * q) v in
    at_most q m n (q * c) a h (omega arith) (omega arith) (mul-pos (mul-pos q>0 q>0) n>0)

-- both toward the negative side: the other is the longer one
behind : (q m n a b c g : ℕ) → 0 < q → 0 < m → Near n m → a * a + b * b ≡ q * q * m → c * c + g * g ≡ n → c * b ≤ a * g → q * c ≤ a + slack * q
behind q m n a b c g q>0 m>0 h circle end turn =
    let s = mul-le-mul turn turn in
    let e₁ = ap (λ k. c * c * k) circle in
    let e₂ = ap (λ k. a * a * k) end in
    let t : c * c * (q * q * m) ≤ a * a * n = omega arith in
    let u = mul-le-mul_left (q * q) t in
    let v : a * a ≤ q * q * m = omega arith in
    at_most q n m a (q * c) h (omega arith) v (mul-pos (mul-pos q>0 q>0) m>0)

-- what is asked of the two arrows. `proper` leaves out that the one points along the axis and the other against it
pub record Turned (q m n : ℕ) (a : ℤ) (b : ℕ) (c : ℤ) (g : ℕ) : Type 0 where
  pub some : 0 < q
  pub m>0 : 0 < m
  pub n>0 : 0 < n
  pub above : Near m n
  pub below : Near n m
  pub circle : nat_abs a * nat_abs a + b * b ≡ q * q * m
  pub end : nat_abs c * nat_abs c + g * g ≡ n
  pub turn : (a *ℤ pos g) ≤ℤ (c *ℤ pos b)
  pub proper : (0 < b) ⊎ ((pos 0 <ℤ c) ⊎ (a ≤ℤ pos 0))

pub reaches : {q m n b g : ℕ} (a c : ℤ) → Turned q m n a b c g → a ≤ℤ (pos q *ℤ (c +ℤ pos slack))
reaches {q} {m} {n} {b} {g} (pos a) (pos c) h =
    let t = prod (self (pos a)) (num g) in
    let u = prod (self (pos c)) (num b) in
    omega (whole, ahead q m n a b c g h.some h.n>0 h.above h.circle h.end (omega whole))
reaches {q} {m} {n} {b} {g} (pos a) (negsuc c) h = absurd (no h.proper)
  where
    no : (0 < b) ⊎ ((pos 0 <ℤ negsuc c) ⊎ (pos a ≤ℤ pos 0)) → ⊥
    no (inl p) = omega (whole, prod (self (pos a)) (num g), prod (self (negsuc c)) (num b))
    no (inr (inl p)) = omega whole
    no (inr (inr p)) =
        let t = prod (self (pos a)) (num g) in
        let u = prod (self (negsuc c)) (num b) in
        let e : a ≤ 0 = omega whole in
        let f : b ≤ 0 = omega whole in
        omega (arith, mul-le-mul e e, mul-le-mul f f, mul-pos (mul-pos h.some h.some) h.m>0)
reaches {q} {m} {n} {b} {g} (negsuc a) (pos c) h = omega whole
reaches {q} {m} {n} {b} {g} (negsuc a) (negsuc c) h =
    let t = prod (self (negsuc a)) (num g) in
    let u = prod (self (negsuc c)) (num b) in
    let v = behind q m n (suc a) b (suc c) g h.some h.m>0 h.below h.circle h.end (omega whole) in
    omega (whole, prod (num q) (sum (self (negsuc c)) (num slack)))
