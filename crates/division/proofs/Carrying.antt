-- The pieces handed out one after the other, the remainder carried along, are the pieces of the division.
-- Assumes nothing.
use mathlib.Core.Path.{◌≡◌, refl, sym, ap, ◌∙◌}
use mathlib.Core.List.{List, [], ◌∷◌, ◌++◌}
use Prim.Native.Nat.{ℕ, zero, suc, ◌+◌, ◌-◌, ◌/◌, ◌%◌, ◌≤◌, ◌<◌}
use native.Mathlib.Nat.{mod-lt}
use native.Mathlib.Omega.{arith}
use lib.ListN.{length, replicate}
use Rattle.division.specs.declared.Pieces.{Pieces}
use Rattle.division.specs.Division.{pieces, sum}
use Rattle.division.specs.Carried.{next_piece, carried, row_of}

-- ---- an example: 10,002 in four, of which the first two take what is to be carried
pub two_carried : carried 2500 2 4 ≡ 2501 ∷ 2501 ∷ 2500 ∷ 2500 ∷ []
unfolding carried next_piece
two_carried = refl

-- ---- a division that begins
none_carried : (q n : ℕ) → carried q 0 n ≡ replicate n q
unfolding carried next_piece
none_carried q zero = refl
none_carried q (suc n) = ap (λ (l : List ℕ). q ∷ l) (none_carried q n)

carried_is : (q r n : ℕ) → r ≤ n → carried q r n ≡ replicate r (q + 1) ++ replicate (n - r) q
unfolding carried next_piece
carried_is q zero n h = let same : n ≡ n - 0 = omega arith in none_carried q n ∙ ap (λ (m : ℕ). replicate m q) same
carried_is q (suc r) zero h = absurd (omega arith)
carried_is q (suc r) (suc n) h =
    let less : suc r - 1 ≡ r = omega arith in
    let both : n - r ≡ suc n - suc r = omega arith in
    ap (λ (m : ℕ). (q + 1) ∷ carried q m n) less ∙ ap (λ (l : List ℕ). (q + 1) ∷ l) (carried_is q r n (omega arith))
    ∙ ap (λ (m : ℕ). (q + 1) ∷ (replicate r (q + 1) ++ replicate m q)) both

pub divided_row : (e n : ℕ) → 0 < n → row_of (record { piece = e / n; remainder = e % n; left = n }) ≡ pieces e n
unfolding row_of pieces
divided_row e n h = carried_is (e / n) (e % n) n (omega (arith, mod-lt e h))

-- ---- how many are left
carried_length : (q r n : ℕ) → length (carried q r n) ≡ n
unfolding carried
carried_length q r zero = refl
carried_length q r (suc n) = ap suc (carried_length q (r - 1) n)

pub row_length : (p : Pieces) → length (row_of p) ≡ p.left
unfolding row_of
row_length p = carried_length p.piece p.remainder p.left

pub none_left : (p : Pieces) → p.left ≡ 0 → row_of p ≡ []
unfolding row_of carried
none_left p z = ap (carried p.piece p.remainder) z

-- ---- the first of some
carried_first : (q r n : ℕ) → 0 < n → carried q r n ≡ next_piece q r ∷ carried q (r - 1) (n - 1)
unfolding carried
carried_first q r zero h = absurd (omega arith)
carried_first q r (suc n) h = let less : n ≡ suc n - 1 = omega arith in ap (λ (m : ℕ). next_piece q r ∷ carried q (r - 1) m) less

one_more : (q r : ℕ) → 0 < r → next_piece q r ≡ q + 1
unfolding next_piece
one_more q zero h = absurd (omega arith)
one_more q (suc r) h = refl

module _ (p : Pieces) (some : 0 < p.left) where
  -- no remainder is left: the shorter piece
  pub shorter_first : p.remainder ≡ 0 → row_of p ≡ p.piece ∷ row_of (record { piece = p.piece; remainder = p.remainder; left = p.left - 1 })
  unfolding row_of next_piece
  shorter_first z =
      carried_first p.piece p.remainder p.left some
      ∙ (λ i. next_piece p.piece (z i) ∷ carried p.piece (z i - 1) (p.left - 1))
      ∙ ap (λ (r : ℕ). p.piece ∷ carried p.piece r (p.left - 1)) (sym z)

  -- some of it is left: the longer one, which takes one of it
  pub longer_first : 0 < p.remainder → row_of p ≡ (p.piece + 1) ∷ row_of (record { piece = p.piece; remainder = p.remainder - 1; left = p.left - 1 })
  unfolding row_of
  longer_first h =
      carried_first p.piece p.remainder p.left some
      ∙ ap (λ (m : ℕ). m ∷ carried p.piece (p.remainder - 1) (p.left - 1)) (one_more p.piece p.remainder h)

  -- which fits where all that is left does
  pub longer_fits : (n : ℕ) → 0 < p.remainder → sum (row_of p) < n → p.piece + 1 < n
  longer_fits n h k = omega (arith, ap sum (longer_first h))
