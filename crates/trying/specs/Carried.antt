-- What is known between two blocks of a trial: what the next block asks for, of the state and of the records that the one before left.
use Rattle.std.specs.Prelude.{ℕ, ◌≤◌, Option, None, Some}
use Rattle.state.specs.Known.{Sound}
use Rattle.trying.specs.declared.Tried.{Tried}

-- a state that a block may be run from, and no more records than there is room for
pub record Carried (room : ℕ) (d : Tried) : Type 0 where
  pub state : Sound d.state
  pub count : d.count ≤ room

-- the same of a line, where it was run
abbrev pub CameWith : ℕ → Option Tried → Type 0
CameWith room None = Unit {0}
CameWith room (Some d) = Carried room d
