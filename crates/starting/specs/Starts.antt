-- A RUN THAT IS STARTED for the engine that hands out one record at a time: it has to hand out what the list engine answers with room for every list.
use Rattle.std.specs.Prelude.{◌≡◌, false, List, [], ℕ, ◌≤◌, ℤ, length, take}
use Rattle.settings.specs.declared.Settings.{Settings}
use Rattle.settings.specs.Points.{with_points}
use Rattle.settings.specs.Wrong.{settings_wrong}
use Rattle.state.specs.Known.{Sound}
use Rattle.returning.specs.of_interpreter.Answers.{interpretation, places_of}
use Rattle.returning.specs.of_resuming.Handed.{Left, left_of, roomy}
use Rattle.returning.specs.of_paused.Kept.{Kept}
use Rattle.returning.specs.of_paused.declared.Phase.{Phase}
use Rattle.returning.specs.of_paused.declared.Phase.TheVariants.{Running, Over}
use Rattle.returning.specs.of_paused.declared.Going.{Going}
use Rattle.returning.specs.Standing.{left_for, task_for, PlacedOn}

-- the list engine's records and its answer, with a buffer of 64,008 bytes and a table of places of so many entries
abbrev pub wanted : List ℕ → List ℤ → Settings → ℕ → Left
wanted tape table set size = left_of (interpretation tape table set size roomy)

-- a run that goes on was not refused before: table and settings are not wrong, and what was read and filled is there
abbrev pub Ready : Phase → List ℕ → List ℤ → Settings → List ℕ → Going → Type 0
Ready Running tape table set places g = (settings_wrong table set ≡ false) × (g.end ≤ length tape) × (g.filled ≤ length places)
Ready (Over a) tape table set places g = Unit {0}

pub record StartMeets (tape : List ℕ) (table : List ℤ) (set : Settings) (places : List ℕ) (g : Going) : Type 0 where
  -- the place of the tape's first line
  pub first : ℕ
  pub same : left_for (task_for (take g.end tape) table (with_points false set) first) [] g ≡ wanted tape table set (length places)
  pub placed : PlacedOn g.phase (take g.end tape) (places_of tape table set places roomy) first g
  pub ready : Ready g.phase tape table set places g
  pub kept : Kept g
  pub state : Sound g.run.state
