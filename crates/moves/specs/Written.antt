-- A row of records that is being written: what is done of it, and what is left.
use Rattle.std.specs.Prelude.{◌≡◌, List, ◌++◌, ℕ, ◌+◌, ◌*◌, length}
use Rattle.octets.specs.Bytes.{laid}
use Rattle.moves.specs.declared.Record.{Record}
use Rattle.moves.specs.declared.Origin.{Origin}
use Rattle.moves.specs.Form.{record_size, row_from}

-- some of the row is written from the place `first` on, as it came from the block o, `left` has the others, and the next is due at the place `at`
pub record Written (o : Origin) (b₀ : List ℕ) (first : ℕ) (row : List Record) (b : List ℕ) (left : List Record) (at : ℕ) : Type 0 where
  pub done : List Record
  pub same : row ≡ done ++ left
  pub place : at ≡ first + record_size * length done
  pub buffer : b ≡ laid b₀ first (row_from o done)
