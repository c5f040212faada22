-- THE ROW OF DEPTHS KEEPS ITS PROMISE, by every rule; and the closed count is its length.
-- Assumes nothing.
use mathlib.Core.Path.{◌≡◌, refl, sym, ap, subst, ◌∙◌}
use Prim.Native.Nat.{ℕ, zero, suc, ◌+◌, ◌-◌, ◌*◌, ◌/◌, ◌%◌, ◌≤◌, ◌<◌, min}
use native.Mathlib.Nat.{mul-le-mul, mul-pos, div-le_self, zero-add}
use native.Mathlib.Omega.{arith}
use lib.ListN.{length, get_or}
use Rattle.division.specs.Division.{count, pieces, divided, sum, greatest, Evenly}
use Rattle.division.proofs.Divisions.{count_is, count_above, evenly, pieces_length, pieces_sum}
use Rattle.depths.specs.declared.Rule.{Rule}
use Rattle.depths.specs.declared.Rule.TheVariants.{EvenDepth, EvenNumber, FallingDepth, FallingNumber}
use Rattle.depths.specs.Depths.{greatest_d, by_depth, by_number, cuts, cut_count, depths, Proper}
use Rattle.depths.specs.Promised.{taken, Rises, Alike, RootByDepth, RootByNumber, Until, Falling, ByRule, Promised}
use Rattle.depths.proofs.Rows.{running_length, running_taken, running_rises, cuts_length, cuts_rise}
use Rattle.depths.proofs.Falls.{some_depths, before_last, at_last, by_depth_rises, by_depth_no_more, by_depth_none, by_number_rises, by_number_none, by_number_last, by_number_before, by_number_no_more, root_by_depth, only_by_depth, root_by_number, only_by_number, until, taken_within}

-- ---- how many cuts
pub some_cut : (r : Rule) (d e : ℕ) → Proper r d e → 0 < cut_count r d e
unfolding cut_count
some_cut EvenDepth d e p = count_above e d p.d6 p.d3
some_cut EvenNumber d e p = p.d3
some_cut FallingDepth d e p = some_depths d e p.d3 p.d6
some_cut FallingNumber d e p = p.d3

pub few_cuts : (r : Rule) (d e : ℕ) → Proper r d e → d ≤ greatest_d → e ≤ greatest_d → cut_count r d e ≤ greatest_d * greatest_d
unfolding cut_count
few_cuts EvenDepth d e p hd he = omega (arith, count_is e d p.d6 p.d3, div-le_self (e - 1) d)
few_cuts EvenNumber d e p hd he = omega arith
few_cuts FallingDepth d e p hd he =
    let a = mul-pos p.d6 p.d6 in
    omega (arith, mul-le-mul he he, count_is (e * e) (d * d) a (mul-pos p.d3 p.d3), div-le_self (e * e - 1) (d * d))
few_cuts FallingNumber d e p hd he = omega arith

-- THE CLOSED COUNT IS THE LENGTH OF THE ROW
pub row_length : (r : Rule) (d e : ℕ) → Proper r d e → length (depths r d e) ≡ cut_count r d e
unfolding cut_count depths divided
row_length EvenDepth d e p = running_length 0 (pieces e (count e d)) ∙ pieces_length e (count e d) (count_above e d p.d6 p.d3)
row_length EvenNumber d e p = running_length 0 (pieces e d) ∙ pieces_length e d p.d3
row_length FallingDepth d e p = cuts_length (λ k. min e (by_depth d k)) 1 (count (e * e) (d * d))
row_length FallingNumber d e p = cuts_length (by_number d e) 1 d

-- ---- THE DEPTHS NEVER FALL, AND THE LAST IS D6
module _ (f : ℕ → ℕ) (e n : ℕ) (none : f 0 ≡ 0) (rises : (k : ℕ) → f k ≤ f (suc k)) (end : f n ≡ e) where
  falling_rises : Rises e 0 (cuts f 1 n)
  falling_rises = subst (λ (x : ℕ). Rises e x (cuts f 1 n)) none (cuts_rise f e rises 0 n (ap f (zero-add n) ∙ end))

pub row_rises : (r : Rule) (d e : ℕ) → Proper r d e → Rises e 0 (depths r d e)
unfolding depths cut_count divided
row_rises EvenDepth d e p = running_rises 0 (pieces e (count e d)) e (omega (arith, pieces_sum e (count e d) (count_above e d p.d6 p.d3)))
row_rises EvenNumber d e p = running_rises 0 (pieces e d) e (omega (arith, pieces_sum e d p.d3))
row_rises FallingDepth d e p =
    falling_rises (λ k. min e (by_depth d k)) e (count (e * e) (d * d))
    (omega (arith, by_depth_none d))
    (λ k. omega (arith, by_depth_rises d k))
    (omega (arith, at_last d e p.d3 p.d6))
row_rises FallingNumber d e p = falling_rises (by_number d e) e d (by_number_none d e p.d3) (by_number_rises d e p.d3) (by_number_last d e p.d3)

-- ---- constant cuts
pieces_alike : (e n : ℕ) → Alike (pieces e n)
unfolding pieces
pieces_alike e n = record { shorter = e / n; deeper_ones = e % n; others = n - e % n; is = refl }

-- ---- falling cuts
cuts_head : (f : ℕ → ℕ) (k n : ℕ) → 0 < n → get_or (cuts f k n) 0 0 ≡ f k
unfolding cuts
cuts_head f k zero h = absurd (omega arith)
cuts_head f k (suc n) h = refl

-- f k is depth k by the rule, and g is f but for what is at or above D6
module _ (R : ℕ → ℕ → Type 0) (f g : ℕ → ℕ) (e n : ℕ) (some : 0 < n) (by : (k : ℕ) → R k (f k)) (only : (k x : ℕ) → R k x → x ≡ f k) (same : (k : ℕ) → f k < e → g k ≡ f k)
    (end : g n ≡ e) (before : (k : ℕ) → k < n → f k < e) (at : e ≤ f n) (none : g 0 ≡ 0) (no_more : (k : ℕ) → g (suc k) ≤ g k + g 1) where
  falls : Falling R e (cuts g 1 n)
  falls = record {
    rule = let all : suc (n - 1) ≡ n = omega arith in subst (λ (m : ℕ). Until R e 1 (cuts g 1 m)) all (until R f g e n by same end before at (n - 1) 1 (omega arith));
    first = subst (λ (x : ℕ). greatest (taken x (cuts g 1 n)) ≤ get_or (cuts g 1 n) 0 0) none (omega (arith, taken_within g (g 1) no_more 0 n, cuts_head g 1 n some));
    fewest = λ k x h r. omega (arith, only k x r, before k (omega (arith, cuts_length g 1 n)));
  }

by_rule : (r : Rule) (d e : ℕ) → Proper r d e → ByRule r d e (depths r d e)
unfolding depths cut_count divided
by_rule EvenDepth d e p =
    let is = running_taken 0 (pieces e (count e d)) in
    record { evenly = subst (Evenly e d) (sym is) (evenly e d p.d6 p.d3); alike = subst Alike (sym is) (pieces_alike e (count e d)) }
by_rule EvenNumber d e p =
    let is = running_taken 0 (pieces e d) in
    record { many = row_length EvenNumber d e p; adds_up = ap sum is ∙ pieces_sum e d p.d3; alike = subst Alike (sym is) (pieces_alike e d) }
by_rule FallingDepth d e p =
    falls (RootByDepth d) (by_depth d) (λ k. min e (by_depth d k)) e (count (e * e) (d * d)) (some_depths d e p.d3 p.d6) (root_by_depth d) (only_by_depth d)
    (λ k h. omega arith)
    (omega (arith, at_last d e p.d3 p.d6))
    (before_last d e p.d3 p.d6)
    (at_last d e p.d3 p.d6)
    (omega (arith, by_depth_none d))
    (λ k. omega (arith, by_depth_no_more d k p.d3))
by_rule FallingNumber d e p = record {
  many = row_length FallingNumber d e p;
  falling = falls (RootByNumber d e) (by_number d e) (by_number d e) e d p.d3 (λ k. root_by_number d e k p.d3) (λ k. only_by_number d e k p.d3)
      (λ k h. refl)
      (by_number_last d e p.d3)
      (by_number_before d e p.d3 p.d6)
      (omega (arith, by_number_last d e p.d3))
      (by_number_none d e p.d3)
      (by_number_no_more d e p.d3 p.number);
}

-- ---- THE LAW
pub promised : (r : Rule) (d e : ℕ) → Proper r d e → Promised r d e (depths r d e)
promised r d e p = record { rises = row_rises r d e p; by_rule = by_rule r d e p }
