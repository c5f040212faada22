-- The even division: its pieces make the length, none is above the greatest piece, no row is shorter, and none as short has a smaller greatest piece.
-- Assumes nothing.
use mathlib.Core.Path.{◌≡◌, ap, ◌∙◌, subst}
use mathlib.Core.List.{List, [], ◌∷◌, ◌++◌}
use Prim.Native.Nat.{ℕ, zero, suc, ◌+◌, ◌-◌, ◌*◌, ◌/◌, ◌%◌, ◌≤◌, ◌<◌, max, zero-le}
use native.Mathlib.Nat.{mul-le-mul_left, div-le_of_le-mul, div-lt_iff_lt-mul, le-div_iff_mul-le, lt-mul-div-succ, div-add-mod, mod-lt, add-div_right, div-le_self}
use native.Mathlib.Decide.{dec_le}
use native.Mathlib.Omega.{arith}
use Rattle.std.specs.Int.{div_ceil}
use Rattle.std.proofs.lemmas.Grind.{div_ceil_times}
use lib.ListN.{length, replicate, length-append, length-replicate}
use Rattle.division.specs.Division.{count, pieces, divided, sum, greatest, Evenly}

-- ---- sums and greatest pieces of repeats, and of rows joined
sum_append : (a b : List ℕ) → sum (a ++ b) ≡ sum a + sum b
sum_append [] b = omega arith
sum_append (x ∷ a) b = omega (arith, sum_append a b)

sum_replicate : (k x : ℕ) → sum (replicate k x) ≡ k * x
sum_replicate zero x = omega arith
sum_replicate (suc k) x = omega (arith, sum_replicate k x)

greatest_append : (a b : List ℕ) (w : ℕ) → greatest a ≤ w → greatest b ≤ w → greatest (a ++ b) ≤ w
greatest_append [] b w h k = k
greatest_append (x ∷ a) b w h k = omega (arith, greatest_append a b w (omega arith) k)

greatest_replicate : (k x w : ℕ) → (0 < k → x ≤ w) → greatest (replicate k x) ≤ w
greatest_replicate zero x w h = zero-le
greatest_replicate (suc k) x w h = omega (arith, h (omega arith), greatest_replicate k x w (λ _. h (omega arith)))

-- a row's sum is at most its length times its greatest piece
bounded : (row : List ℕ) → sum row ≤ length row * greatest row
bounded [] = zero-le
bounded (x ∷ row) = omega (arith, bounded row, mul-le-mul_left (length row) (le_max x (greatest row)))
  where
    le_max : (a b : ℕ) → b ≤ max a b
    le_max a b = omega arith

-- ---- the greatest piece is as small as n pieces allow
up_to : (n q r w : ℕ) → n * q + r ≤ n * w → 0 < r → q + 1 ≤ w
up_to n q r w h p = go (dec_le (q + 1) w)
  where
    go : Dec (q + 1 ≤ w) → q + 1 ≤ w
    go (yes k) = k
    go (no k) = absurd (omega (arith, mul-le-mul_left {m = w} {n = q} n (omega arith)))

least : (e n w : ℕ) → 0 < n → e ≤ n * w → greatest (pieces e n) ≤ w
unfolding pieces
least e n w p h =
    greatest_append (replicate (e % n) (e / n + 1)) (replicate (n - e % n) (e / n)) w
    (greatest_replicate (e % n) (e / n + 1) w (λ r. up_to n (e / n) (e % n) w (omega (arith, div-add-mod e n)) r))
    (greatest_replicate (n - e % n) (e / n) w (λ _. div-le_of_le-mul n h))

-- ---- n pieces of e are n, and make e
pub pieces_length : (e n : ℕ) → 0 < n → length (pieces e n) ≡ n
unfolding pieces
pieces_length e n p = simp (length-append, length-replicate) (omega (arith, mod-lt e p))

share : (r m n q e : ℕ) → r + m ≡ n → n * q + r ≡ e → r * (q + 1) + m * q ≡ e
share r m n q e hn he = let k : (r + m) * q + r ≡ e = rw hn he in omega arith

pub pieces_sum : (e n : ℕ) → 0 < n → sum (pieces e n) ≡ e
unfolding pieces
pieces_sum e n p =
    sum_append (replicate (e % n) (e / n + 1)) (replicate (n - e % n) (e / n))
    ∙ (λ i. sum_replicate (e % n) (e / n + 1) i + sum_replicate (n - e % n) (e / n) i)
    ∙ share (e % n) (n - e % n) n (e / n) e (omega (arith, mod-lt e p)) (div-add-mod e n)

-- ---- the count, without a sum that could wrap
pub count_is : (e d : ℕ) → 0 < e → 0 < d → count e d ≡ (e - 1) / d + 1
unfolding count
count_is e d pe pd = let k : e + (d - 1) ≡ (e - 1) + d = omega arith in ap (λ (n : ℕ). n / d) k ∙ add-div_right (e - 1) pd

-- the library's quotient rounded up is the count
pub ceil_is : (e d : ℕ) → 0 < d → div_ceil e d ≡ count e d
unfolding count
ceil_is e d p =
    let k : ℕ = div_ceil e d in
    let t = div_ceil_times e d p in
    let above : (e + (d - 1)) / d < k + 1 = (div-lt_iff_lt-mul {k = d} {x = e + (d - 1)} {y = k + 1} p).1 (omega (arith, t.0, p)) in
    let below : k ≤ (e + (d - 1)) / d = (le-div_iff_mul-le {k = d} {x = k} {y = e + (d - 1)} p).1 (omega (arith, t.1, p)) in
    omega (arith, above, below)

pub count_above : (e d : ℕ) → 0 < e → 0 < d → 0 < count e d
count_above e d pe pd = omega (arith, count_is e d pe pd)

-- a length has no more pieces than units
pub few_pieces : (e d : ℕ) → 0 < e → 0 < d → count e d ≤ e
few_pieces e d pe pd = omega (arith, count_is e d pe pd, div-le_self (e - 1) d)

-- ---- THE LAW of demand 3
pub evenly : (e d : ℕ) → 0 < e → 0 < d → Evenly e d (divided e d)
unfolding divided
evenly e d pe pd = record {
  adds_up = pieces_sum e n pn;
  within = least e n d pn (omega (arith, is, lt-mul-div-succ (e - 1) pd, ap (λ (k : ℕ). d * k) is));
  fewest = λ o t l.
      omega (arith, is, pieces_length e n pn, (div-lt_iff_lt-mul {k = d} {x = e - 1} {y = length o} pd).1 (omega (arith, bounded o, mul-le-mul_left (length o) l)));
  flattest = λ o t l. least e n (greatest o) pn (subst (λ (k : ℕ). e ≤ k * greatest o) (l ∙ pieces_length e n pn) (omega (arith, bounded o)));
}
  where
    n : ℕ
    n = count e d

    is : n ≡ (e - 1) / d + 1
    is = count_is e d pe pd

    pn : 0 < n
    pn = count_above e d pe pd
