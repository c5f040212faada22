-- How a bite falls until it repeats itself, and how long that takes: at most 1,807 steps for a first bite of 32 bits, and at most 634 for one of a D word.
-- Assumes nothing.
use mathlib.Core.Path.{◌≡◌, refl, sym, subst}
use Prim.Native.Nat.{ℕ, zero, suc, ◌+◌, ◌-◌, ◌*◌, ◌/◌, ◌≤◌, ◌<◌, max}
use native.Mathlib.Nat.{mul-le-mul, mul-le-mul_left}
use native.Mathlib.Decide.{dec_le, dec_lt}
use native.Mathlib.Omega.{arith}
use Rattle.bites.specs.Bites.{next_bite}

-- the slowest fall: one percent less each time, with nothing to stop it
abbrev pub fallen : ℕ → ℕ → ℕ
fallen top zero = top
fallen top (suc k) = fallen top k * 99 / 100

-- ---- it is over after so many steps: computed
pub word_over : fallen 32_767 634 ≡ 0
word_over = refl

pub all_over : fallen 4_294_967_295 1_807 ≡ 0
all_over = refl

-- it never rises
never_up : (top k j : ℕ) → fallen top (k + j) ≤ fallen top k
never_up top k zero = subst (λ (n : ℕ). fallen top n ≤ fallen top k) (none k) (omega arith)
  where
    none : (k : ℕ) → k ≡ k + 0
    none k = omega arith
never_up top k (suc j) =
    subst (λ (n : ℕ). fallen top n ≤ fallen top k) (more k j) (omega (arith, never_up top k j))
  where
    more : (k j : ℕ) → suc (k + j) ≡ k + suc j
    more k j = omega arith

-- a greater first bite falls no faster
from_more : (a b k : ℕ) → a ≤ b → fallen a k ≤ fallen b k
from_more a b zero h = h
from_more a b (suc k) h = omega (arith, from_more a b k h)

-- while something is left of it, it has not been as many steps as it takes
before : (top over k : ℕ) → fallen top over ≡ 0 → 0 < fallen top k → k < over
before top over k z h = go (dec_lt k over)
  where
    go : Dec (k < over) → k < over
    go (yes l) = l
    go (no l) = absurd (omega (arith, subst (λ (n : ℕ). fallen top n ≤ fallen top over) same (never_up top over (k - over))))
      where
        same : over + (k - over) ≡ k
        same = omega arith

-- ---- a bite of the row against the slowest fall
-- a bite is the least one, or has fallen as far
pub data Low (least top bite k : ℕ) : Type 0 where
  least_one : bite ≡ least → Low least top bite k
  fell : bite ≤ fallen top k → Low least top bite k

-- the least bite repeats itself
pub least_repeats : (less least : ℕ) → next_bite less least least ≡ least
unfolding next_bite
least_repeats less least = omega (arith, part)
  where
    part : least * (100 - less) / 100 ≤ least
    part = omega (arith, mul-le-mul_left {m = 100 - less} {n = 100} least (omega arith))

-- a part of a bite, one percent taken off at least
part_falls : (less bite top : ℕ) → 0 < less → bite ≤ top → bite * (100 - less) / 100 ≤ top * 99 / 100
part_falls less bite top h b = let rest : 100 - less ≤ 99 = omega arith in omega (arith, mul-le-mul b rest)

-- with nothing taken off a bite repeats itself, or is raised to the least one
next_whole : (least bite : ℕ) → next_bite 0 least bite ≡ max bite least
unfolding next_bite
next_whole least bite = omega arith

pub low_next : (less least top bite k : ℕ) → Low least top bite k → (next_bite less least bite ≡ bite → ⊥) → Low least top (next_bite less least bite) (suc k)
unfolding next_bite
low_next less least top bite k (least_one e) n = absurd (n (subst (λ (m : ℕ). next_bite less least m ≡ m) (sym e) (least_repeats less least)))
low_next zero least top bite k (fell h) n = go (dec_le least bite)
  where
    go : Dec (least ≤ bite) → Low least top (next_bite 0 least bite) (suc k)
    go (yes l) = absurd (n (omega (arith, next_whole least bite)))
    go (no l) = least_one (omega (arith, next_whole least bite))
low_next (suc less) least top bite k (fell h) n = go (dec_le least (bite * (100 - suc less) / 100))
  where
    go : Dec (least ≤ bite * (100 - suc less) / 100) → Low least top (next_bite (suc less) least bite) (suc k)
    go (yes l) = fell (omega (arith, part_falls (suc less) bite (fallen top k) (omega arith) h))
    go (no l) = least_one (omega arith)

-- A BITE THAT DOES NOT REPEAT ITSELF has not been as many steps as the slowest fall takes
pub still_early : (less least top over bite k : ℕ) → fallen top over ≡ 0 → Low least top bite k → (bite ≡ 0 → least ≡ 0) → (next_bite less least bite ≡ bite → ⊥) → k < over
still_early less least top over bite k z (least_one e) low n = absurd (n (subst (λ (m : ℕ). next_bite less least m ≡ m) (sym e) (least_repeats less least)))
still_early less least top over bite k z (fell h) low n = before top over k z (some bite h low n)
  where
    some : (bite : ℕ) → bite ≤ fallen top k → (bite ≡ 0 → least ≡ 0) → (next_bite less least bite ≡ bite → ⊥) → 0 < fallen top k
    some zero h low n = absurd (n (subst (λ (m : ℕ). next_bite less m 0 ≡ 0) (sym (low refl)) (least_repeats less 0)))
    some (suc bite) h low n = omega arith

-- a next bite of 0 has no least one above it
pub next_low : (less least bite : ℕ) → next_bite less least bite ≡ 0 → least ≡ 0
unfolding next_bite
next_low less least bite e = omega arith
