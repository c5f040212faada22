-- What is known where alarm 1 is not given: the table has its numbers, and the settings are in their ranges. It serves contracts and proofs.
use Rattle.std.specs.Prelude.{◌≡◌, true, List, ℕ, ◌≤◌, ℤ, pos, length, get_or}
use Rattle.whole.specs.Position.{in_table}
use Rattle.settings.specs.declared.Span.{Span}
use Rattle.settings.specs.declared.Settings.{Settings}
use Rattle.settings.specs.Wrong.{table_size, greatest_retract, greatest_empty_cuts}

pub record Table (table : List ℤ) : Type 0 where
  pub size : length table ≡ table_size
  pub each : (i : ℕ) → in_table (get_or table i (pos 0)) ≡ true

pub record SpanIn (s : Span) : Type 0 where
  pub lowest : in_table s.lowest ≡ true
  pub highest : in_table s.highest ≡ true

-- the numbers that a block works with
pub record InRange (set : Settings) : Type 0 where
  pub retract : set.retract ≤ greatest_retract
  pub x : SpanIn set.limits.x
  pub z : SpanIn set.limits.z
  pub empty_cuts : set.empty_cuts ≤ greatest_empty_cuts

pub record Starts (set : Settings) : Type 0 where
  pub x : in_table set.x ≡ true
  pub z : in_table set.z ≡ true

pub record Right (table : List ℤ) (set : Settings) : Type 0 where
  pub offsets : Table table
  pub range : InRange set
  pub starts : Starts set
