-- A part of a groove that is written: its records stand in the buffer from the place `first` on, and what is left of the groove can go on from there.
use Rattle.std.specs.Prelude.{ℕ, List}
use Rattle.moves.specs.declared.Origin.{Origin}
use Rattle.moves.specs.Written.{Written}
use Rattle.plunges.specs.declared.Cursor.{Cursor}
use Rattle.plunges.specs.Cursor.{rest_of, Sound}
use Rattle.plunging.specs.declared.Put.{Put}

pub record Puts (o : Origin) (b : List ℕ) (first : ℕ) (c : Cursor) (v : List ℕ) (r : Put) : Type 0 where
  pub written : Written o b first (rest_of c) v (rest_of r.rest) r.at
  pub sound : Sound r.rest
