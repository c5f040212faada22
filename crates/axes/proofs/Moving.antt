-- A rapid of a cycle leaves the axes where it goes.
-- Assumes nothing.
use mathlib.Core.Path.{◌≡◌, refl}
use mathlib.Core.Bool.{Bool, true, false}
use lib.IntN.{ℤ}
use Rattle.moves.specs.declared.Record.{Record}
use Rattle.moves.specs.Last.{after}
use Rattle.moves.proofs.Last.{Moves, after_move}
use Rattle.axes.specs.Goes.{rapid_to}

pub rapid_moves : (facing : Bool) (i a : ℤ) → Moves (rapid_to facing i a)
unfolding rapid_to
rapid_moves true i a = refl
rapid_moves false i a = refl

-- on the coordinate f of a record
pub after_rapid : (f : Record → ℤ) (facing : Bool) (i a x : ℤ) → after f x (rapid_to facing i a) ≡ f (rapid_to facing i a)
after_rapid f facing i a x = after_move f (rapid_to facing i a) x (rapid_moves facing i a)
