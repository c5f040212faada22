-- WHERE THE CUTS OF A THREAD END, of those that are left behind the depth x.
use Rattle.std.specs.Prelude.{List, [], ◌∷◌, ℕ, ◌+◌, ◌-◌, ◌*◌}
use Rattle.cuts.specs.declared.Falling.{Falling}
use Rattle.cuts.specs.declared.Cuts.{Cuts}
use Rattle.depths.specs.Promised.{Rises}
use Rattle.cuts.specs.Cuts.{rest_of}

-- the last depth of a row, and of none the depth before it
unfoldable pub last_of : ℕ → List ℕ → ℕ
last_of x [] = x
last_of x (y ∷ ys) = last_of y ys

abbrev pub deepest : ℕ → Cuts → ℕ
deepest x c = last_of x (rest_of x c)

-- none falls
abbrev pub Rising : ℕ → Cuts → Type 0
Rising x c = Rises (deepest x c) x (rest_of x c)

-- falling cuts, of which the last alone is left
abbrev pub only_last : Falling → Falling
only_last f = record { d3 = f.d3; d6 = f.d6; square = f.square; sum = f.sum + (f.left - 1) * f.square; left = 1 }
