-- What is known of a turn and of an engine. It serves contracts and proofs.
use Rattle.std.specs.Prelude.{◌≡◌, List, [], ℕ, ◌≤◌, ◌<◌, ℤ, length}
use Rattle.settings.specs.Known.{Table, InRange}
use Rattle.settings.specs.declared.Settings.{Settings}
use Rattle.state.specs.Known.{Sound}
use Rattle.holding.specs.of_taking.declared.Run.{Run}
use Rattle.holding.specs.of_taking.declared.Hand.{Hand}
use Rattle.holding.specs.of_taking.declared.Hand.TheVariants.{Nothing, Block}
use Rattle.holding.specs.of_taking.Hands.{in_hand}
use Rattle.holding.specs.Held.{Held}
use Rattle.skipping.specs.of_paused.Kept.{Fitting, Kept}
use Rattle.skipping.specs.of_paused.declared.Phase.{Phase}
use Rattle.skipping.specs.of_paused.declared.Phase.TheVariants.{Running, Over}
use Rattle.skipping.specs.of_paused.declared.Going.{Going}
use Rattle.stepping.specs.declared.Turned.{Turned}
use Rattle.skipping.specs.of_returning.Standing.{left_for, task_for, PlacedOn, Placed}

-- ---- before a turn
-- the tape is what was read of it; nothing is asked of what the tape and the table of places hold
pub record Fit (tape : List ℕ) (table : List ℤ) (set : Settings) (places : List ℕ) (g : Going) : Type 0 where
  pub offsets : Table table
  pub range : InRange set
  pub filled : g.filled ≤ length places
  pub read : length tape ≡ g.end
  pub state : Sound g.run.state
  pub kept : Kept g

-- ---- after a turn
-- what is left is what was left, where the table of places is the tape's own and the answer's place and count have 16 bits
pub record Lawful (tape : List ℕ) (table : List ℤ) (set : Settings) (places : List ℕ) (first : ℕ) (g : Going) (r : Turned) : Type 0 where
  pub same : left_for (task_for tape table set first) (in_hand r.hand) r.going ≡ left_for (task_for tape table set first) [] g
  pub placed : PlacedOn r.going.phase tape places first r.going

pub record TurnMeets (tape : List ℕ) (table : List ℤ) (set : Settings) (places : List ℕ) (g : Going) (r : Turned) : Type 0 where
  pub lawful : (first : ℕ) → Placed tape places first g → Fitting (left_for (task_for tape table set first) [] g).answer → Lawful tape table set places first g r
  pub held : Held r.hand
  pub kept : Kept r.going
  pub state : Sound r.going.run.state
  pub end : r.going.end ≡ g.end
  pub filled : r.going.filled ≡ g.filled

-- a run that goes on has fewer blocks left to begin
abbrev pub Nearer : Phase → Run → Run → Type 0
Nearer Running r s = s.blocks_left < r.blocks_left
Nearer (Over a) r s = Unit {0}

-- a record is in hand, or the run is over
abbrev pub Stands : Hand → Phase → Type 0
Stands Nothing Running = ⊥
Stands Nothing (Over a) = Unit {0}
Stands (Block c o) p = Unit {0}
