-- What is known of a tape that was read, and of the table of places with it. It serves contracts and proofs.
use Rattle.std.specs.Prelude.{List, ℕ, ◌≤◌, length, take}
use Rattle.finding.specs.Finds.{Finds}
use Rattle.reading.specs.declared.Read.{Read}
use Rattle.reading.specs.declared.Read.TheVariants as read

-- what is looked up in the first entries of the table of places is what the walk along the tape finds
pub record Lent (places : List ℕ) (count : ℕ) (tape : List ℕ) (first : ℕ) : Type 0 where
  pub filled : count ≤ length places
  pub finds : Finds (take count places) tape first

-- the end of reading lies on the tape, and the table of places is that of the lines up to there
abbrev pub ReadIn : List ℕ → List ℕ → ℕ → Read → Type 0
ReadIn tape places count (read.Whole first end) = (end ≤ length tape) × Lent places count (take end tape) first
ReadIn tape places count (read.Alarm alarm place) = Unit {0}
