-- ONE MOVE AT A TIME, as a statement about every tape, table, settings and lent table of places. 02, request 12: "Prove that its answers in turn are exactly the list engine's records and then its end or alarm, for every input, the list
-- engine's buffer being 64,008 bytes and its block table long enough."
use Rattle.std.specs.Prelude.{◌≡◌, List, ℕ, ◌≤◌, ℤ}
use Rattle.reading.specs.Filling.{most_places}
use Rattle.settings.specs.declared.Settings.{Settings}
use Rattle.interpreter.specs.Answers.{interpretation, first_interpretation}
use Rattle.resuming.specs.Handed.{left_of, handed, roomy}
use Rattle.resuming.specs.Engines.{start, answers_of}

pub record OneMove (tape : List ℕ) (table : List ℤ) (set : Settings) (size : ℕ) : Type 0 where
  -- the k-th answer after a start, from 0, is the list engine's record k, and from its count on its end or alarm, for ever; both engines with a table of places of the same length
  pub same : (k : ℕ) → answers_of (start tape table set size) k ≡ handed (left_of (interpretation tape table set size roomy)) k
  -- and where that table is long enough for every tape, so that 22 does not come, those of the first layout, which knows no such table
  pub long : most_places ≤ size → (k : ℕ) → answers_of (start tape table set size) k ≡ handed (left_of (first_interpretation tape table set roomy)) k
