-- WHAT A FALL GIVES: the row of bites is `bites` bites, each of them smaller than the one before or raised to the least one, and then bites that are all the same, up to the last, which is what is
-- left. The walk costs a step for each bite of the first part alone.
use Rattle.std.specs.Prelude.{◌≡◌, ℕ, ◌+◌, ◌≤◌, ◌<◌, eqb, length}
use Rattle.division.specs.Division.{count}
use Rattle.bites.specs.declared.Fallen.{Fallen}
use Rattle.bites.specs.Bites.{biting, has_zero}

-- 01: "D at most 32,767"
abbrev pub greatest_d : ℕ
greatest_d = 32_767

-- the most steps that a fall takes: for a first bite of 32 bits, and for one of a D word
abbrev pub most_steps : ℕ
most_steps = 1_807

abbrev pub most_word_steps : ℕ
most_word_steps = 634

pub record Falls (less least first stroke : ℕ) (r : Fallen) : Type 0 where
  -- something is left
  pub some : 0 < r.left
  pub fits : r.bites + r.left ≤ stroke
  -- the row has a bite of 0 just where the bite that repeats itself is 0
  pub zero : has_zero (biting less least first stroke stroke) ≡ eqb r.bite 0
  -- else what is left is counted by a division
  pub many : 0 < r.bite → length (biting less least first stroke stroke) ≡ r.bites + count r.left r.bite
  -- THE COST
  pub cost : r.bites ≤ most_steps
  pub word : first ≤ greatest_d → r.bites ≤ most_word_steps
