-- Alarm 18: "a move ends outside the limits". 01: "a cycle is judged by where its moves end, not by its target".
use Rattle.std.specs.Prelude.{Bool, false, cond, ◌||◌, List, [], ◌∷◌, ℤ}
use Rattle.settings.specs.Limits.{outside}
use Rattle.settings.specs.declared.Limits.{Limits}
use Rattle.moves.specs.declared.Record.{Record}

abbrev pub outside_to : Limits → Bool → ℤ → ℤ → Bool
outside_to l facing i a = cond facing (outside l a i) (outside l i a)

-- some of a row of moves ends outside
unfoldable pub any_outside : Limits → List Record → Bool
any_outside l [] = false
any_outside l (r ∷ rs) = outside l r.x r.z || any_outside l rs
