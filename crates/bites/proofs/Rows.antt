-- The row of bites: what it adds up to, its first bite, and what it is where the bite repeats itself.
-- Assumes nothing.
use mathlib.Core.Path.{◌≡◌, refl, sym, ap, ◌∙◌}
use mathlib.Core.Bool.{true, false, ◌||◌}
use mathlib.Core.List.{List, [], ◌∷◌}
use Prim.Native.Nat.{ℕ, zero, suc, ◌+◌, ◌-◌, ◌/◌, ◌≤◌, ◌<◌}
use native.Mathlib.Nat.{div-eq_of_lt, div-eq-sub-div}
use native.Mathlib.Decide.{dec_lt}
use native.Mathlib.Omega.{arith}
use lib.Dec.{eqb}
use lib.ListN.{length}
use borrow.Author.Tests.{lt-ltb, le-ltb, ne_eqb, eqb-false}
use Rattle.division.specs.Division.{count, sum}
use Rattle.division.proofs.Divisions.{count_is}
use Rattle.axes.proofs.Places.{neither, both}
use Rattle.bites.specs.Bites.{next_bite, biting, has_zero}

pub some : (n : ℕ) → eqb n 0 ≡ false → 0 < n
some zero e = absurd (eqb-false 0 0 e refl)
some (suc n) e = omega arith

-- ---- one bite of the row
pub bite_step : (less least bite left n : ℕ) → bite < left → biting less least bite left (suc n) ≡ bite ∷ biting less least (next_bite less least bite) (left - bite) n
unfolding biting
bite_step less least bite left n h = rw (lt-ltb bite left h) refl

pub bite_first : (less least bite left n : ℕ) → bite < left → 0 < n
    → biting less least bite left n ≡ bite ∷ biting less least (next_bite less least bite) (left - bite) (n - 1)
bite_first less least bite left zero h k = absurd (omega arith)
bite_first less least bite left (suc n) h k =
    bite_step less least bite left n h ∙ ap (λ (m : ℕ). bite ∷ biting less least (next_bite less least bite) (left - bite) m) (less_one n)
  where
    less_one : (n : ℕ) → n ≡ suc n - 1
    less_one n = omega arith

pub bite_last : (less least bite left n : ℕ) → left ≤ bite → 0 < n → biting less least bite left n ≡ left ∷ []
unfolding biting
bite_last less least bite left zero h k = absurd (omega arith)
bite_last less least bite left (suc n) h k = rw (le-ltb bite left h) refl

pub no_room : (less least bite left : ℕ) → biting less least bite left 0 ≡ []
unfolding biting
no_room less least bite left = refl

-- ---- THE BITES ADD UP to what was left, where none is 0
pub biting_sum : (less least bite left n : ℕ) → left ≤ n → has_zero (biting less least bite left n) ≡ false → sum (biting less least bite left n) ≡ left
unfolding has_zero
biting_sum less least bite left zero h e = ap sum (no_room less least bite left) ∙ omega arith
biting_sum less least bite left (suc n) h e = go (dec_lt bite left) (λ k z. biting_sum less least (next_bite less least bite) (left - bite) n k z)
  where
    rest : List ℕ
    rest = biting less least (next_bite less least bite) (left - bite) n

    go : Dec (bite < left) → (left - bite ≤ n → has_zero rest ≡ false → sum rest ≡ left - bite) → sum (biting less least bite left (suc n)) ≡ left
    go (yes l) on =
        let first = bite_step less least bite left n l in
        let z = neither (eqb bite 0) (has_zero rest) (sym (ap has_zero first) ∙ e) in
        let s = some bite z.0 in
        ap sum first ∙ omega (arith, on (omega arith) z.1)
    go (no l) on = ap sum (bite_last less least bite left (suc n) (omega arith) (omega arith)) ∙ omega arith

-- ---- where the bite repeats itself the row is counted by a division
pub count_last : (left bite : ℕ) → 0 < left → left ≤ bite → count left bite ≡ 1
count_last left bite h k = count_is left bite h (omega arith) ∙ ap (λ (n : ℕ). n + 1) (div-eq_of_lt (omega arith))

count_more : (left bite : ℕ) → 0 < bite → bite < left → count left bite ≡ suc (count (left - bite) bite)
count_more left bite h k =
    let e : left - 1 - bite ≡ left - bite - 1 = omega arith in
    count_is left bite (omega arith) h
    ∙ ap (λ (n : ℕ). n + 1) (div-eq-sub-div {m = bite} {n = left - 1} h (omega arith) ∙ ap (λ (n : ℕ). n / bite + 1) e)
    ∙ omega (arith, count_is (left - bite) bite (omega arith) h)

pub repeats_count : (less least bite left n : ℕ) → 0 < bite → 0 < left → left ≤ n → next_bite less least bite ≡ bite
    → length (biting less least bite left n) ≡ count left bite
repeats_count less least bite left zero h k l e = absurd (omega arith)
repeats_count less least bite left (suc n) h k l e = go (dec_lt bite left) (λ p q. repeats_count less least bite (left - bite) n h p q e)
  where
    go : Dec (bite < left) → (0 < left - bite → left - bite ≤ n → length (biting less least bite (left - bite) n) ≡ count (left - bite) bite) → length (biting less least bite left (suc n)) ≡ count left bite
    go (yes t) on =
        ap length (bite_step less least bite left n t)
        ∙ ap (λ (m : ℕ). suc (length (biting less least m (left - bite) n))) e
        ∙ ap suc (on (omega arith) (omega arith))
        ∙ sym (count_more left bite h t)
    go (no t) on = ap length (bite_last less least bite left (suc n) (omega arith) (omega arith)) ∙ sym (count_last left bite k (omega arith))

pub repeats_above : (less least bite left n : ℕ) → 0 < bite → 0 < left → left ≤ n → next_bite less least bite ≡ bite
    → has_zero (biting less least bite left n) ≡ false
unfolding has_zero
repeats_above less least bite left zero h k l e = absurd (omega arith)
repeats_above less least bite left (suc n) h k l e = go (dec_lt bite left) (λ p q. repeats_above less least bite (left - bite) n h p q e)
  where
    none : (d : ℕ) → 0 < d → eqb d 0 ≡ false
    none d p = ne_eqb d 0 (λ z. omega arith)

    go : Dec (bite < left) → (0 < left - bite → left - bite ≤ n → has_zero (biting less least bite (left - bite) n) ≡ false) → has_zero (biting less least bite left (suc n)) ≡ false
    go (yes t) on =
        ap has_zero (bite_step less least bite left n t)
        ∙ ap (λ (m : ℕ). eqb bite 0 || has_zero (biting less least m (left - bite) n)) e
        ∙ both (eqb bite 0) (has_zero (biting less least bite (left - bite) n)) (none bite h) (on (omega arith) (omega arith))
    go (no t) on = ap has_zero (bite_last less least bite left (suc n) (omega arith) (omega arith)) ∙ both (eqb left 0) false (none left k) refl

pub last_above : (less least bite left n : ℕ) → left ≤ bite → 0 < left → 0 < n → has_zero (biting less least bite left n) ≡ false
unfolding has_zero
last_above less least bite left n h k l = ap has_zero (bite_last less least bite left n h l) ∙ both (eqb left 0) false (ne_eqb left 0 (λ z. omega arith)) refl

-- a bite of 0 before the target
pub zero_found : (less least left n : ℕ) → 0 < left → 0 < n → has_zero (biting less least 0 left n) ≡ true
unfolding has_zero
zero_found less least left n h k = ap has_zero (bite_first less least 0 left n h k)
