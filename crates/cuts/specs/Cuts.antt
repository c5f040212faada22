-- WHAT IS LEFT OF A THREAD'S CUTS that are opened, x being the depth that was reached before: depths that are still to come.
use Rattle.std.specs.Prelude.{◌≡◌, Bool, List, [], ◌∷◌, ℕ, zero, suc, ◌+◌, ◌-◌, ◌*◌, ◌/◌, ◌<◌, ◌^◌, min, eqb}
use Rattle.division.specs.Division.{sum}
use Rattle.division.specs.Carried.{row_of}
use Rattle.roots.specs.Roots.{root}
use Rattle.depths.specs.Depths.{running}
use Rattle.cuts.specs.declared.Falling.{Falling}
use Rattle.cuts.specs.declared.Cuts.{Cuts}
use Rattle.cuts.specs.declared.Cuts.TheVariants.{Even, ByDepth, ByNumber}

-- ---- the depths that are left
-- of falling cuts: each has one square more than the sum t before it, and f makes its depth
unfoldable pub rooted : (ℕ → ℕ) → ℕ → ℕ → ℕ → List ℕ
rooted f square t zero = []
rooted f square t (suc n) = f (t + square) ∷ rooted f square (t + square) n

-- "the first at or above D6 made D6"
abbrev pub up_to : ℕ → ℕ → ℕ
up_to e t = min e (root t)

-- "of D6² x k / D3"
abbrev pub shared : ℕ → ℕ → ℕ
shared d t = root (t / d)

unfoldable pub rest_of : ℕ → Cuts → List ℕ
rest_of x (Even p) = running x (row_of p)
rest_of x (ByDepth f) = rooted (up_to f.d6) f.square f.sum f.left
rest_of x (ByNumber f) = rooted (shared f.d3) f.square f.sum f.left

-- none is left
unfoldable pub over : Cuts → Bool
over (Even p) = eqb p.left 0
over (ByDepth f) = eqb f.left 0
over (ByNumber f) = eqb f.left 0

-- ---- what the contracts say
-- n falling cuts, each with the square of a side more
abbrev pub falling_from : ℕ → ℕ → ℕ → ℕ → Falling
falling_from d e side n = record { d3 = d; d6 = e; square = side * side; sum = 0; left = n }

-- the same, one square more under the root
abbrev pub one_more : Falling → Falling
one_more f = record { d3 = f.d3; d6 = f.d6; square = f.square; sum = f.sum + f.square; left = f.left - 1 }

-- what all cuts keep: what they add up to fits
abbrev pub Summed : Falling → Type 0
Summed f = f.sum + f.left * f.square < 2 ^ 64

abbrev pub Sound : ℕ → Cuts → Type 0
Sound x (Even p) = x + sum (row_of p) < 2 ^ 32
Sound x (ByDepth f) = Summed f
Sound x (ByNumber f) = (0 < f.d3) × Summed f

-- one depth: the first of what is left, and cuts that have the others
pub record Makes (x : ℕ) (c : Cuts) (made : ℕ) (behind : Cuts) : Type 0 where
  pub first : rest_of x c ≡ made ∷ rest_of made behind
  pub sound : Sound made behind
