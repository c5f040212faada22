-- Roots compared by squares, and the one estimate of the promise: of two arrows on one side of an axis, the one no farther from it by its angle, and with lengths near each other,
-- reaches along the axis at most 10 micrometres farther.
-- Assumes nothing.
use mathlib.Core.Path.{◌≡◌}
use mathlib.Core.Bool.{false}
use Prim.Native.Nat.{ℕ, ◌+◌, ◌-◌, ◌*◌, ◌≤◌, ◌<◌}
use native.Mathlib.Omega.{arith}
use native.Mathlib.Nat.{mul-le-mul, mul-le-mul_left, mul-le-mul_right, lt_of_mul-lt-mul_left}
use borrow.Author.Tests.{ltb-false}
use Rattle.arrows.specs.Arrows.{slack, exceeds}

-- √m ≤ √n + 20, with what m has above n + 400
pub record Near (m n : ℕ) : Type 0 where
  pub by : ℕ
  pub reach : m ≤ n + slack * slack + by
  pub small : by * by ≤ 4 * (slack * slack) * n

pub near : (m n : ℕ) → exceeds m n ≡ false → Near m n
unfolding exceeds
near m n e = record { by = m - (n + slack * slack); reach = omega arith; small = ltb-false (4 * (slack * slack) * n) ((m - (n + slack * slack)) * (m - (n + slack * slack))) e }

pub near_self : (m : ℕ) → Near m m
near_self m = record { by = 0; reach = omega arith; small = omega arith }

-- a / c ≤ √m / √n, √m ≤ √n + d, c ≤ √n: a is at most c + d
beyond : (m n c a d by : ℕ) → m ≤ n + d * d + by → by * by ≤ 4 * (d * d) * n → a * a * n ≤ m * (c * c) → c * c ≤ n → 0 < n → c + d < a → ⊥
beyond m n c a d by reach small slope under some far =
    let s = mul-le-mul_right n (mul-le-mul far far) in
    let t = mul-le-mul_right (c * c) reach in
    let u = mul-le-mul_left (d * d) under in
    let e : c * (2 * (d * n)) < c * (by * c) = omega arith in
    let f : 2 * (d * n) < by * c = lt_of_mul-lt-mul_left c e in
    let v = mul-le-mul f f in
    let w = mul-le-mul_right (c * c) small in
    let x = mul-le-mul_left (4 * (d * d) * n) under in
    omega arith

decide : (a b : ℕ) → (b < a → ⊥) → a ≤ b
decide a b h = omega arith

-- the same, a and c counted in q-ths
pub at_most : (q m n c a : ℕ) → Near m n → a * a * (q * q * n) ≤ q * q * m * (c * c) → c * c ≤ q * q * n → 0 < q * q * n → a ≤ c + slack * q
at_most q m n c a h slope under some =
    let s = mul-le-mul_left (q * q) h.reach in
    let t = mul-le-mul_left (q * q * (q * q)) h.small in
    decide a (c + slack * q) (beyond (q * q * m) (q * q * n) c a (slack * q) (q * q * h.by) (omega arith) (omega arith) slope under some)
