-- Where rows of records leave the axes.
-- Assumes nothing.
use mathlib.Core.Path.{◌≡◌, refl, ap, ◌∙◌}
use mathlib.Core.Bool.{Bool, true, false, cond}
use mathlib.Core.List.{List, [], ◌∷◌, ◌++◌}
use lib.IntN.{ℤ}
use Rattle.moves.specs.declared.Record.{Record}
use Rattle.moves.specs.Kinds.{is_centre}
use Rattle.moves.specs.Last.{after, last_of}

-- a record that is no centre: the axes stand where it says
abbrev pub Moves : Record → Type 0
Moves r = is_centre r.kind ≡ false

-- ---- of any coordinate: f is X or Z of a record
module _ (f : Record → ℤ) where
  pub after_move : (r : Record) (x : ℤ) → Moves r → after f x r ≡ f r
  after_move r x h = ap (λ (t : Bool). cond t x (f r)) h

  -- a record where the axes stand, of whatever kind
  pub after_here : (r : Record) (x : ℤ) → f r ≡ x → after f x r ≡ x
  after_here r x h = go (is_centre r.kind)
    where
      go : (t : Bool) → cond t x (f r) ≡ x
      go true = refl
      go false = h

  -- rows joined
  pub last_append : (v w : List Record) (x : ℤ) → last_of f x (v ++ w) ≡ last_of f (last_of f x v) w
  last_append [] w x = refl
  last_append (r ∷ v) w x = last_append v w (after f x r)

  -- a row that ends with a move
  pub ends_last : (v : List Record) (r : Record) (x : ℤ) → Moves r → last_of f x (v ++ (r ∷ [])) ≡ f r
  ends_last v r x h = last_append v (r ∷ []) x ∙ after_move r (last_of f x v) h
