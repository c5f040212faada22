-- THE DEPTHS OF A THREAD'S CUTS, per side and from the crest; d is D3 and e is D6. 02, request 1: "Depths are divided per side. Constant cuts use document 01's
-- division, or D3 equal-as-possible pieces, deeper first, when D3 is a number. Otherwise depth k is the whole part of the square root of k x D3², the first at or above
-- D6 made D6 and last, or of D6² x k / D3 for a cut number."
use Rattle.std.specs.Prelude.{List, [], ◌∷◌, ℕ, zero, suc, ◌+◌, ◌*◌, ◌/◌, ◌≤◌, ◌<◌, min}
use Rattle.division.specs.Division.{count, pieces, divided}
use Rattle.roots.specs.Roots.{root}
use Rattle.depths.specs.declared.Rule.{Rule}
use Rattle.depths.specs.declared.Rule.TheVariants.{EvenDepth, EvenNumber, FallingDepth, FallingNumber}

-- 01: "D at most 32,767"
abbrev pub greatest_d : ℕ
greatest_d = 32_767

-- ---- constant cuts: the pieces of a division, each added to the depth x before it
unfoldable pub running : ℕ → List ℕ → List ℕ
running x [] = []
running x (p ∷ ps) = (x + p) ∷ running (x + p) ps

-- ---- falling cuts: "depth k is the whole part of the square root of k x D3² .., or of D6² x k / D3 for a cut number"
abbrev pub by_depth : ℕ → ℕ → ℕ
by_depth d k = root (k * (d * d))

abbrev pub by_number : ℕ → ℕ → ℕ → ℕ
by_number d e k = root (e * e * k / d)

-- n cuts from cut k on
unfoldable pub cuts : (ℕ → ℕ) → ℕ → ℕ → List ℕ
cuts f k zero = []
cuts f k (suc n) = f k ∷ cuts f (suc k) n

-- ---- how many cuts reach the depth e. Of falling ones by depth "the first at or above D6" is the cut e²/d², rounded up (laws: `before_last`, `at_last`)
unfoldable pub cut_count : Rule → ℕ → ℕ → ℕ
cut_count EvenDepth d e = count e d
cut_count EvenNumber d e = d
cut_count FallingDepth d e = count (e * e) (d * d)
cut_count FallingNumber d e = d

-- THE ROW
unfoldable pub depths : Rule → ℕ → ℕ → List ℕ
depths EvenDepth d e = running 0 (divided e d)
depths EvenNumber d e = running 0 (pieces e d)
depths FallingDepth d e = cuts (λ k. min e (by_depth d k)) 1 (cut_count FallingDepth d e)
depths FallingNumber d e = cuts (by_number d e) 1 d

-- ---- D3 and D6 as alarm 19 leaves them: neither is 0, a cut number is not above D6
abbrev pub Enough : Rule → ℕ → ℕ → Type 0
Enough EvenDepth d e = Unit {0}
Enough EvenNumber d e = d ≤ e
Enough FallingDepth d e = Unit {0}
Enough FallingNumber d e = d ≤ e

pub record Proper (r : Rule) (d e : ℕ) : Type 0 where
  pub d3 : 0 < d
  pub d6 : 0 < e
  pub number : Enough r d e
