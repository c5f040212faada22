-- What the tests by squares mean, said of fractions: a/q and b/q stand for the roots of m and n where their squares lie on either side.
-- Assumes nothing.
use mathlib.Core.Path.{◌≡◌}
use mathlib.Core.Bool.{true, false}
use Prim.Native.Nat.{ℕ, zero, suc, ◌+◌, ◌-◌, ◌*◌, ◌≤◌, ◌<◌}
use native.Mathlib.Omega.{arith}
use native.Mathlib.Nat.{mul-le-mul, mul-le-mul_left, mul-lt-mul_of_pos_left, lt_of_mul-lt-mul_left, le_of_mul-le-mul_left, mul-pos}
use borrow.Author.Tests.{ltb-true}
use Rattle.arrows.specs.Arrows.{slack, exceeds}
use Rattle.arrows.proofs.Roots.{near}

decide : (a b : ℕ) → (b < a → ⊥) → a ≤ b
decide a b h = omega arith

-- refused by no test: a/q ≤ √m and √n ≤ b/q leave at most 20 between
pub within : (m n : ℕ) → exceeds m n ≡ false → (q a b : ℕ) → 0 < q → a * a ≤ q * q * m → q * q * n ≤ b * b → a ≤ b + slack * q
within m n e q a b some low high = decide a (b + slack * q) far
  where
    far : b + slack * q < a → ⊥
    far f =
        let h = near m n e in
        let s = mul-le-mul f f in
        let t = mul-le-mul_left (q * q) h.reach in
        let u : q * (2 * slack * b) < q * (q * h.by) = omega arith in
        let v : 2 * slack * b < q * h.by = lt_of_mul-lt-mul_left q u in
        let w = mul-le-mul v v in
        let x = mul-le-mul_left (q * q) h.small in
        omega arith

-- refused: √m ≤ a/q and b/q ≤ √n have more than 20 between
pub apart : (m n : ℕ) → exceeds m n ≡ true → (q a b : ℕ) → 0 < q → q * q * m ≤ a * a → b * b ≤ q * q * n → b + slack * q < a
unfolding exceeds
apart m n e q a b some high low = below a (b + slack * q) far
  where
    below : (a c : ℕ) → (a ≤ c → ⊥) → c < a
    below a c h = omega arith

    -- what m has above n + 400, and that it has some
    refuse : (by : ℕ) → 4 * (slack * slack) * n < by * by → n + slack * slack + by ≤ m → a ≤ b + slack * q → ⊥
    refuse by h k f =
        let s = mul-le-mul f f in
        let t = mul-le-mul_left (q * q) k in
        let u : q * (q * by) ≤ q * (2 * slack * b) = omega arith in
        let v : q * by ≤ 2 * slack * b = le_of_mul-le-mul_left u some in
        let w = mul-le-mul v v in
        let x = mul-lt-mul_of_pos_left h (mul-pos some some) in
        omega arith

    far : a ≤ b + slack * q → ⊥
    far f =
        let h = ltb-true (4 * (slack * slack) * n) ((m - (n + slack * slack)) * (m - (n + slack * slack))) e in
        refuse (m - (n + slack * slack)) h (omega (arith, above (m - (n + slack * slack)) h)) f
      where
        above : (by : ℕ) → 4 * (slack * slack) * n < by * by → 0 < by
        above zero h = absurd (omega arith)
        above (suc k) h = omega arith
