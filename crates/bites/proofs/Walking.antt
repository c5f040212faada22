-- The walk of a fall: what holds after each of its turns, and what it gives at the end.
-- Assumes nothing.
use mathlib.Core.Path.{◌≡◌, refl, sym, ap, ◌∙◌, subst}
use mathlib.Core.Bool.{Bool, true, false, ◌||◌, ◌&&◌, not}
use mathlib.Core.List.{List, ◌∷◌}
use Prim.Native.Nat.{ℕ, zero, suc, ◌+◌, ◌-◌, ◌≤◌, ◌<◌}
use native.Mathlib.Decide.{dec_lt}
use native.Mathlib.Omega.{arith}
use lib.Dec.{T, ltb, eqb}
use lib.ListN.{length}
use borrow.Author.Tests.{ltb-true, lt-ltb, eqb-true, eqb-false, ne_eqb, not-true, not-false}
use Rattle.division.specs.Division.{count}
use Rattle.bites.specs.Bites.{next_bite, biting, has_zero}
use Rattle.bites.specs.Falls.{greatest_d, most_steps, most_word_steps, Falls}
use Rattle.bites.proofs.Falling.{word_over, all_over, Low, fell, least_repeats, low_next, still_early, next_low}
use Rattle.bites.proofs.Rows.{bite_first, bite_last, count_last, repeats_count, repeats_above, last_above, zero_found}

-- the greatest first bite of 32 bits
abbrev top : ℕ
top = 4_294_967_295

opened : (b : ℕ) (l : List ℕ) → eqb b 0 ≡ false → has_zero (b ∷ l) ≡ has_zero l
unfolding has_zero
opened b l e = ap (λ (t : Bool). t || has_zero l) e

-- after so many bites, with a bite, the next one and what is left
pub record Fell (less least first stroke bites bite next left : ℕ) : Type 0 where
  pub is : next ≡ next_bite less least bite
  pub some : 0 < left
  pub fits : bites + left ≤ stroke
  pub many : length (biting less least first stroke stroke) ≡ bites + length (biting less least bite left (stroke - bites))
  pub zero : has_zero (biting less least first stroke stroke) ≡ has_zero (biting less least bite left (stroke - bites))
  pub low : bite ≡ 0 → least ≡ 0
  pub path : Low least top bite bites
  pub word : first ≤ greatest_d → Low least greatest_d bite bites
  pub cost : bites ≤ most_steps
  pub word_cost : first ≤ greatest_d → bites ≤ most_word_steps

pub begins : (less least first stroke next : ℕ) → next ≡ next_bite less least first → 0 < first → 0 < stroke → first ≤ top → Fell less least first stroke 0 first next stroke
begins less least first stroke next e f s t = record {
  is = e;
  some = s;
  fits = omega arith;
  many = ap (λ (n : ℕ). length (biting less least first stroke n)) (all stroke) ∙ omega arith;
  zero = ap (λ (n : ℕ). has_zero (biting less least first stroke n)) (all stroke);
  low = λ z. absurd (omega arith);
  path = fell t;
  word = λ h. fell h;
  cost = omega arith;
  word_cost = λ _. omega arith;
}
  where
    all : (n : ℕ) → n ≡ n - 0
    all n = omega arith

module _ {less least first stroke bites bite next left : ℕ} (w : Fell less least first stroke bites bite next left) (t : bite < left) (n : next ≡ bite → ⊥) where
  moves : next_bite less least bite ≡ bite → ⊥
  moves e = n (w.is ∙ e)

  -- a bite that goes on is not 0
  pub above : 0 < bite
  above = go bite w.low moves
    where
      go : (b : ℕ) → (b ≡ 0 → least ≡ 0) → (next_bite less least b ≡ b → ⊥) → 0 < b
      go zero l m = absurd (m (subst (λ (k : ℕ). next_bite less k 0 ≡ 0) (sym (l refl)) (least_repeats less 0)))
      go (suc b) l m = omega arith

  fuel : stroke - bites - 1 ≡ stroke - (bites + 1)
  fuel = omega arith

  -- ONE TURN
  pub goes_on : (further : ℕ) → further ≡ next_bite less least next → Fell less least first stroke (bites + 1) next further (left - bite)
  goes_on further e =
      let a = above in
      let f = w.fits in
      let one = bite_first less least bite left (stroke - bites) t (omega arith) in
      record {
        is = e;
        some = omega arith;
        fits = omega arith;
        many = w.many ∙ ap (λ (l : List ℕ). bites + length l) one ∙ (λ i. bites + suc (length (biting less least (sym w.is i) (left - bite) (fuel i)))) ∙ omega arith;
        zero = w.zero ∙ ap has_zero one ∙ (λ i. has_zero (bite ∷ biting less least (sym w.is i) (left - bite) (fuel i))) ∙ not_first bite (biting less least next (left - bite) (stroke - (bites + 1))) a;
        low = λ z. next_low less least bite (sym w.is ∙ z);
        path = further_down (low_next less least top bite bites w.path moves);
        word = λ h. further_down (low_next less least greatest_d bite bites (w.word h) moves);
        cost = omega (arith, still_early less least top most_steps bite bites all_over w.path w.low moves);
        word_cost = λ h. omega (arith, still_early less least greatest_d most_word_steps bite bites word_over (w.word h) w.low moves);
      }
    where
      not_first : (b : ℕ) (l : List ℕ) → 0 < b → has_zero (b ∷ l) ≡ has_zero l
      not_first b l h = opened b l (ne_eqb b 0 (λ z. omega arith))

      further_down : {m : ℕ} → Low least m (next_bite less least bite) (suc bites) → Low least m next (bites + 1)
      further_down {m} l = subst (λ (k : ℕ). Low least m next k) (omega arith) (subst (λ (k : ℕ). Low least m k (suc bites)) (sym w.is) l)

-- ---- the end: the bite makes the last, or repeats itself
pub ends : {less least first stroke bites bite next left : ℕ} → Fell less least first stroke bites bite next left → (bite < left → next ≡ bite)
    → Falls less least first stroke (record { bites = bites; bite = bite; left = left })
ends {less} {least} {first} {stroke} {bites} {bite} {next} {left} w e = record {
  some = w.some;
  fits = w.fits;
  zero = w.zero ∙ go bite w.some (λ h. sym w.is ∙ e h);
  many = λ h. w.many ∙ ap (λ (n : ℕ). bites + n) (counted h);
  cost = w.cost;
  word = w.word_cost;
}
  where
    room : left ≤ stroke - bites
    room = omega (arith, w.fits)

    counted : 0 < bite → length (biting less least bite left (stroke - bites)) ≡ count left bite
    counted h = either (dec_lt bite left)
      where
        either : Dec (bite < left) → length (biting less least bite left (stroke - bites)) ≡ count left bite
        either (yes t) = repeats_count less least bite left (stroke - bites) h w.some room (sym w.is ∙ e t)
        either (no t) = ap length (bite_last less least bite left (stroke - bites) (omega arith) (omega (arith, w.some))) ∙ sym (count_last left bite w.some (omega arith))

    go : (b : ℕ) → 0 < left → (b < left → next_bite less least b ≡ b) → has_zero (biting less least b left (stroke - bites)) ≡ eqb b 0
    go zero s r = zero_found less least left (stroke - bites) s (omega arith)
    go (suc b) s r = either (dec_lt (suc b) left) ∙ sym (ne_eqb (suc b) 0 (λ z. omega arith))
      where
        either : Dec (suc b < left) → has_zero (biting less least (suc b) left (stroke - bites)) ≡ false
        either (yes t) = repeats_above less least (suc b) left (stroke - bites) (omega arith) s room (r t)
        either (no t) = last_above less least (suc b) left (stroke - bites) (omega arith) s (omega arith)

-- ---- the loop's test
pub test_on : (bite left next : ℕ) → (ltb bite left && not (eqb next bite)) ≡ true → (bite < left) × (next ≡ bite → ⊥)
test_on bite left next e = go (ltb bite left) (not (eqb next bite)) refl refl e
  where
    go : (a b : Bool) → ltb bite left ≡ a → not (eqb next bite) ≡ b → (a && b) ≡ true → (bite < left) × (next ≡ bite → ⊥)
    go true true p q e = (ltb-true bite left p, eqb-false next bite (not-true (eqb next bite) q))
    go true false p q e = absurd (subst T (sym e) tt)
    go false b p q e = absurd (subst T (sym e) tt)

pub test_over : (bite left next : ℕ) → (ltb bite left && not (eqb next bite)) ≡ false → bite < left → next ≡ bite
test_over bite left next e h = eqb-true next bite (not-false (eqb next bite) (subst (λ (t : Bool). (t && not (eqb next bite)) ≡ false) (lt-ltb bite left h) e))
