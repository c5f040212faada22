-- A whole number z as a difference u - d of two naturals, not only of its own two: sums, differences and products of ℤ become those of ℕ, where `omega` multiplies out. An equation of ℤ
-- with products is then `same`.
-- Assumes nothing.
use mathlib.Core.Path.{◌≡◌, ap}
use Prim.Native.Nat.{ℕ, suc, ◌+◌, ◌*◌}
use native.Mathlib.Omega.{arith}
use lib.IntN.{ℤ, pos, negsuc, neg_ℤ, ◌+ℤ◌, ◌-ℤ◌, ◌*ℤ◌}
use Rattle.whole.proofs.Integers.{up, down, add_in, sub_in, up_neg, down_neg, eq_out}

pub record Is (z : ℤ) (u d : ℕ) : Type 0 where
  pub is : up z + d ≡ down z + u

pub self : (z : ℤ) → Is z (up z) (down z)
self z = record { is = omega arith }

pub num : (n : ℕ) → Is (pos n) n 0
num n = record { is = omega arith }

mul_in : (a b : ℤ) → up (a *ℤ b) + (up a * down b + down a * up b) ≡ down (a *ℤ b) + (up a * up b + down a * down b)
mul_in (pos a) (pos b) = omega arith
mul_in (pos a) (negsuc b) = omega (arith, up_neg (pos (a * suc b)), down_neg (pos (a * suc b)))
mul_in (negsuc a) (pos b) = omega (arith, up_neg (pos (suc a * b)), down_neg (pos (suc a * b)))
mul_in (negsuc a) (negsuc b) = omega arith

module _ {a b : ℤ} {u d v e : ℕ} (x : Is a u d) (y : Is b v e) where
  pub sum : Is (a +ℤ b) (u + v) (d + e)
  sum = record { is = omega (arith, add_in a b) }

  pub dif : Is (a -ℤ b) (u + e) (d + v)
  dif = record { is = omega (arith, sub_in a b) }

  pub prod : Is (a *ℤ b) (u * v + d * e) (u * e + d * v)
  prod = record { is = omega (arith, mul_in a b, ap (λ n. n * up b) x.is, ap (λ n. n * down b) x.is, ap (λ n. u * n) y.is, ap (λ n. d * n) y.is) }

  pub same : u + e ≡ v + d → a ≡ b
  same h = eq_out a b (omega arith)

pub neg : {a : ℤ} {u d : ℕ} → Is a u d → Is (neg_ℤ a) d u
neg {a} x = record { is = omega (arith, up_neg a, down_neg a) }

-- ---- laws of ℤ that the library lacks
pub sub_mul : (a b c : ℤ) → (a -ℤ b) *ℤ c ≡ a *ℤ c -ℤ b *ℤ c
sub_mul a b c =
    let x = self a in let y = self b in let z = self c in
    same (prod (dif x y) z) (dif (prod x z) (prod y z)) (omega arith)

pub add_mul : (a b c : ℤ) → (a +ℤ b) *ℤ c ≡ a *ℤ c +ℤ b *ℤ c
add_mul a b c =
    let x = self a in let y = self b in let z = self c in
    same (prod (sum x y) z) (sum (prod x z) (prod y z)) (omega arith)

pub mul_add : (a b c : ℤ) → a *ℤ (b +ℤ c) ≡ a *ℤ b +ℤ a *ℤ c
mul_add a b c =
    let x = self a in let y = self b in let z = self c in
    same (prod x (sum y z)) (sum (prod x y) (prod x z)) (omega arith)

-- three factors, in another order
pub order_acb : (a b c : ℤ) → a *ℤ b *ℤ c ≡ a *ℤ c *ℤ b
order_acb a b c =
    let x = self a in let y = self b in let z = self c in
    same (prod (prod x y) z) (prod (prod x z) y) (omega arith)

pub order_bca : (a b c : ℤ) → a *ℤ b *ℤ c ≡ b *ℤ c *ℤ a
order_bca a b c =
    let x = self a in let y = self b in let z = self c in
    same (prod (prod x y) z) (prod (prod y z) x) (omega arith)

pub order_cba : (a b c : ℤ) → a *ℤ b *ℤ c ≡ c *ℤ b *ℤ a
order_cba a b c =
    let x = self a in let y = self b in let z = self c in
    same (prod (prod x y) z) (prod (prod z y) x) (omega arith)

pub assoc : (a b c : ℤ) → a *ℤ b *ℤ c ≡ a *ℤ (b *ℤ c)
assoc a b c =
    let x = self a in let y = self b in let z = self c in
    same (prod (prod x y) z) (prod x (prod y z)) (omega arith)

pub order_a_cb : (a b c : ℤ) → a *ℤ b *ℤ c ≡ a *ℤ (c *ℤ b)
order_a_cb a b c =
    let x = self a in let y = self b in let z = self c in
    same (prod (prod x y) z) (prod x (prod z y)) (omega arith)
