-- Laws of the tables of G and M numbers: a number in a row, a number in none, and the groups.
-- Assumes nothing.
use Prim.Native.Nat.{ℕ, zero, suc, ◌+◌, ◌-◌, ◌≤◌, ◌<◌}
use mathlib.Core.Bool.{Bool, true, false, cond, ◌&&◌}
use mathlib.Core.List.{List, [], ◌∷◌, ◌++◌}
use mathlib.Core.Path.{◌≡◌, refl, ap, ◌∙◌}
use native.Mathlib.Omega.{arith}
use lib.Dec.{leb, eqb}
use lib.ListN.{take, drop}
use mir.Syntax.{w32}
use mir.Val.{Fits}
use borrow.Author.Tests.{leb-true, le-leb}
use Rattle.codes.specs.declared.Code.{Code}
use Rattle.codes.specs.declared.Code.TheVariants.{Of, Unknown}
use Rattle.codes.specs.declared.Meaning.{Meaning}
use Rattle.codes.specs.declared.Meaning.TheVariants as means
use Rattle.codes.specs.Codes.{Row, range, look, g_rows, m_rows, g_code, m_code}

-- a row that does not hold n
miss : (l h n : ℕ) → (l ≤ n → n ≤ h → ⊥) → (leb l n && leb n h) ≡ false
miss l h n out = go (leb l n) (leb n h) refl refl
  where
    go : (a b : Bool) → leb l n ≡ a → leb n h ≡ b → (a && b) ≡ false
    go true true p q = absurd (out (leb-true l n p) (leb-true n h q))
    go true false p q = refl
    go false b p q = refl

-- n stands in none of the rows
abbrev pub Misses : ℕ → List Row → Type 0
Misses n [] = Unit {0}
Misses n (r ∷ rs) = (r.low ≤ n → n ≤ r.high → ⊥) × Misses n rs

-- the first row that holds n, behind rows that do not
pub look_hit : (before : List Row) (r : Row) (after : List Row) (n : ℕ) → Misses n before → r.low ≤ n → n ≤ r.high
    → look (before ++ (r ∷ after)) n ≡ Of r.group (r.meaning n)
look_hit [] r after n m l h = rw (le-leb _ _ l, le-leb _ _ h)
look_hit (b ∷ bs) r after n m l h = rw (miss b.low b.high n m.0) (look_hit bs r after n m.1 l h)

pub look_none : (rs : List Row) (n : ℕ) → Misses n rs → look rs n ≡ Unknown
look_none [] n m = refl
look_none (r ∷ rs) n m = rw (miss r.low r.high n m.0) (look_none rs n m.1)

pub misses_both : (k : ℕ) (rs : List Row) (n : ℕ) → Misses n (take k rs) → Misses n (drop k rs) → Misses n rs
misses_both zero rs n a b = b
misses_both (suc k) [] n a b = tt
misses_both (suc k) (r ∷ rs) n a b = (a.0, misses_both k rs n a.1 b)

-- ---- the groups are those of the rows
abbrev GroupsBelow : ℕ → List Row → Type 0
GroupsBelow k [] = Unit {0}
GroupsBelow k (r ∷ rs) = (r.group < k) × GroupsBelow k rs

-- the group of a code is below k, where it has one
abbrev pub CodeIn : Code → ℕ → Type 0
CodeIn (Of g m) k = g < k
CodeIn Unknown k = Unit {0}

groups : (k : ℕ) (rs : List Row) (n : ℕ) → GroupsBelow k rs → CodeIn (look rs n) k
groups k [] n b = tt
groups k (r ∷ rs) n b = go (leb r.low n && leb n r.high) (groups k rs n b.1)
  where
    go : (t : Bool) → CodeIn (look rs n) k → CodeIn (cond t (Of r.group (r.meaning n)) (look rs n)) k
    go true h = b.0
    go false h = h

pub g_groups : (n : ℕ) → CodeIn (g_code n) 8
unfolding g_code
g_groups n = groups 8 g_rows n (omega arith)

pub m_groups : (n : ℕ) → CodeIn (m_code n) 4
unfolding m_code
m_groups n = groups 4 m_rows n (omega arith)

-- ---- G numbers that are no numerals
module _ (n : ℕ) where
  -- behind a number that it is not; and the shift that it calls is small
  pub past : (k : ℕ) → k ≤ n → (n ≡ k → ⊥) → k + 1 ≤ n
  past k l e = omega arith

  pub shift_a_fits : n < 56 → Fits w32 (1 + (n - 54))
  shift_a_fits h = omega arith

  pub shift_b_fits : n < 60 → Fits w32 (3 + (n - 57))
  shift_b_fits h = omega arith

  pub cutting : 96 ≤ n → n < 98 → g_code n ≡ Of 1 (means.CuttingSpeed (eqb n 96))
  unfolding g_code
  cutting l h = look_hit (take 11 g_rows) (range 96 97 1 (λ k. means.CuttingSpeed (eqb k 96))) (drop 12 g_rows) n (misses_both 6 (take 11 g_rows) n (omega arith) (omega arith)) l (omega arith)

  pub revolution : 94 ≤ n → n < 96 → g_code n ≡ Of 2 (means.PerRevolution (eqb n 95))
  unfolding g_code
  revolution l h = look_hit (take 12 g_rows) (range 94 95 2 (λ k. means.PerRevolution (eqb k 95))) (drop 13 g_rows) n (misses_both 6 (take 12 g_rows) n (omega arith) (omega arith)) l (omega arith)

  pub shift_a : 53 ≤ n → n < 56 → (n ≡ 53 → ⊥) → g_code n ≡ Of 3 (means.Shift (1 + (n - 54)))
  unfolding g_code
  shift_a l h e =
      look_hit (take 14 g_rows) (range 54 55 3 (λ k. means.Shift (1 + (k - 54)))) (drop 15 g_rows) n (misses_both 7 (take 14 g_rows) n (omega arith) (omega arith)) (omega arith) (omega arith)

  pub shift_b : 56 ≤ n → n < 60 → (n ≡ 56 → ⊥) → g_code n ≡ Of 5 (means.Shift (3 + (n - 57)))
  unfolding g_code
  shift_b l h e =
      look_hit (take 16 g_rows) (range 57 59 5 (λ k. means.Shift (3 + (k - 57)))) (drop 17 g_rows) n (misses_both 8 (take 16 g_rows) n (omega arith) (omega arith)) (omega arith) (omega arith)

  -- `omega` takes few inequations at a time
  low : (n ≡ 0 → ⊥) → (n ≡ 1 → ⊥) → (n ≡ 2 → ⊥) → (n ≡ 3 → ⊥) → (n ≡ 4 → ⊥) → 5 ≤ n
  low a b c d e = omega arith

  low_1 : 5 ≤ n → (n ≡ 33 → ⊥) → n < 53 → Misses n (take 5 g_rows)
  low_1 l a h = omega arith

  low_2 : 5 ≤ n → (n ≡ 25 → ⊥) → (n ≡ 27 → ⊥) → n < 53 → Misses n (drop 5 g_rows)
  low_2 l a b h = omega arith

  pub none_low : n < 53 → (n ≡ 0 → ⊥) → (n ≡ 1 → ⊥) → (n ≡ 2 → ⊥) → (n ≡ 3 → ⊥) → (n ≡ 33 → ⊥) → (n ≡ 4 → ⊥) → (n ≡ 25 → ⊥) → (n ≡ 27 → ⊥) → g_code n ≡ Unknown
  unfolding g_code
  none_low h a b c d e f g k = let l = low a b c d f in look_none g_rows n (misses_both 5 g_rows n (low_1 l e h) (low_2 l g k h))

  middle_1 : 60 ≤ n → (n ≡ 84 → ⊥) → (n ≡ 85 → ⊥) → (n ≡ 86 → ⊥) → (n ≡ 87 → ⊥) → (n ≡ 88 → ⊥) → Misses n (take 11 g_rows)
  middle_1 l a b c d e = omega arith

  middle_2 : 60 ≤ n → n < 94 → (n ≡ 71 → ⊥) → Misses n (drop 11 g_rows)
  middle_2 l h a = omega arith

  pub none_middle : 60 ≤ n → n < 94 → (n ≡ 84 → ⊥) → (n ≡ 85 → ⊥) → (n ≡ 86 → ⊥) → (n ≡ 87 → ⊥) → (n ≡ 88 → ⊥) → (n ≡ 71 → ⊥) → g_code n ≡ Unknown
  unfolding g_code
  none_middle l h a b c d e f = look_none g_rows n (misses_both 11 g_rows n (middle_1 l a b c d e) (middle_2 l h f))

  pub none_high : 98 ≤ n → g_code n ≡ Unknown
  unfolding g_code
  none_high l = look_none g_rows n (misses_both 11 g_rows n (omega arith) (omega arith))

  -- ---- M numbers
  pub spindle : 3 ≤ n → n < 6 → m_code n ≡ Of 0 means.Spindle
  unfolding m_code
  spindle l h = look_hit [] (range 3 5 0 (λ _. means.Spindle)) (drop 1 m_rows) n tt l (omega arith)

  pub coolant : 8 ≤ n → n < 10 → m_code n ≡ Of 3 means.Coolant
  unfolding m_code
  coolant l h = look_hit (take 1 m_rows) (range 8 9 3 (λ _. means.Coolant)) (drop 2 m_rows) n (omega arith) l (omega arith)

  pub m_low : n < 3 → (n ≡ 0 → ⊥) → m_code n ≡ Unknown
  unfolding m_code
  m_low h a = look_none m_rows n (omega arith)

  pub m_middle : 6 ≤ n → n < 8 → m_code n ≡ Unknown
  unfolding m_code
  m_middle l h = look_none m_rows n (omega arith)

  pub m_high : 10 ≤ n → (n ≡ 17 → ⊥) → (n ≡ 30 → ⊥) → m_code n ≡ Unknown
  unfolding m_code
  m_high l a b = look_none m_rows n (omega arith)

-- a code and a meaning that were matched on
pub code_is : {k : Code} {g : ℕ} {m n : Meaning} → k ≡ Of g m → m ≡ n → k ≡ Of g n
code_is {g = g} e f = e ∙ ap (λ (m : Meaning). Of g m) f
