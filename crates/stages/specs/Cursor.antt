-- WHAT IS LEFT OF A BLOCK that is opened: the record that is due, and those behind it, in the order of 01 (specs/Writes.antt of `writing`).
use Rattle.std.specs.Prelude.{◌≡◌, Bool, true, false, cond, not, ◌&&◌, List, [], ◌∷◌, ◌++◌}
use Rattle.moves.specs.Kinds.{tool, miscellaneous, speed}
use Rattle.moves.specs.declared.Record.{Record}
use Rattle.passes.specs.Cursor as turn
use Rattle.threads.specs.Cursor as thread
use Rattle.plunges.specs.Cursor as groove
use Rattle.bores.specs.Cursor as drill
use Rattle.writing.specs.Writes.{one_if}
use Rattle.stages.specs.declared.Stage.{Stage}
use Rattle.stages.specs.declared.Stage.TheVariants.{Speed, Tool, Spindle, Coolant, Deed, Centre, Stop, Over}
use Rattle.stages.specs.declared.Due.{Due}
use Rattle.stages.specs.declared.Due.TheVariants.{Turning, Threading, Grooving, Drilling, Single}
use Rattle.stages.specs.declared.Plan.{Plan}

-- ---- the records that are left
-- the records that are no cycle's; where none is due, no one asks
unfoldable pub single_of : Plan → Stage → Record
single_of p Speed = speed p.x p.z p.speed p.g96
single_of p Tool = tool p.x p.z p.tool
single_of p Spindle = miscellaneous p.x p.z p.spindle
single_of p Coolant = miscellaneous p.x p.z p.coolant
single_of p Deed = p.own.goes
single_of p Centre = p.own.centre
single_of p Stop = miscellaneous p.x_behind p.z_behind p.stop
single_of p Over = p.own.goes

-- behind the deed: M00 or M30
unfoldable pub behind_deed : Plan → List Record
behind_deed p = one_if p.stops (single_of p Stop)

-- behind the deed's own record: the centre of an arc, and M00 or M30
unfoldable pub from_centre : Plan → List Record
from_centre p = one_if p.own.has_centre (single_of p Centre) ++ behind_deed p

-- before it, from a word on: l are the deed's records and what is behind them
unfoldable pub from_coolant : Plan → List Record → List Record
from_coolant p l = one_if p.has_coolant (single_of p Coolant) ++ l

unfoldable pub from_spindle : Plan → List Record → List Record
from_spindle p l = one_if p.has_spindle (single_of p Spindle) ++ from_coolant p l

unfoldable pub from_tool : Plan → List Record → List Record
from_tool p l = one_if p.has_tool (single_of p Tool) ++ from_spindle p l

unfoldable pub from_speed : Plan → Bool → List Record → List Record
from_speed p s l = one_if s (single_of p Speed) ++ from_tool p l

-- behind a record that is no cycle's
unfoldable pub behind_at : Plan → List Record → Stage → List Record
behind_at p l Speed = from_tool p l
behind_at p l Tool = from_spindle p l
behind_at p l Spindle = from_coolant p l
behind_at p l Coolant = l
behind_at p l Deed = from_centre p
behind_at p l Centre = behind_deed p
behind_at p l Stop = []
behind_at p l Over = []

-- from such a record on
unfoldable pub rest_at : Plan → List Record → Stage → List Record
rest_at p l Speed = single_of p Speed ∷ behind_at p l Speed
rest_at p l Tool = single_of p Tool ∷ behind_at p l Tool
rest_at p l Spindle = single_of p Spindle ∷ behind_at p l Spindle
rest_at p l Coolant = single_of p Coolant ∷ behind_at p l Coolant
rest_at p l Deed = single_of p Deed ∷ behind_at p l Deed
rest_at p l Centre = single_of p Centre ∷ behind_at p l Centre
rest_at p l Stop = single_of p Stop ∷ behind_at p l Stop
rest_at p l Over = []

-- from what is due on
unfoldable pub rest_from : Plan → List Record → Due → List Record
rest_from p l (Turning c) = turn.rest_of c ++ behind_deed p
rest_from p l (Threading c) = thread.rest_of c ++ behind_deed p
rest_from p l (Grooving c) = groove.rest_of c ++ behind_deed p
rest_from p l (Drilling c) = drill.rest_of c ++ behind_deed p
rest_from p l (Single k) = rest_at p l k

-- the deed's records, and M00 or M30
unfoldable pub deed_row : Plan → List Record
deed_row p = rest_from p [] p.deed

-- the records that are left
unfoldable pub rest_of : Plan → Due → List Record
rest_of p d = rest_from p (deed_row p) d

-- what is due behind the deed
abbrev pub stage_behind : Bool → Stage
stage_behind stops = cond stops Stop Over

-- ---- none is left
abbrev pub stage_over : Stage → Bool
stage_over Speed = false
stage_over Tool = false
stage_over Spindle = false
stage_over Coolant = false
stage_over Deed = false
stage_over Centre = false
stage_over Stop = false
stage_over Over = true

-- a cycle is due that has none left
abbrev pub cycle_over : Due → Bool
cycle_over (Turning c) = turn.over c
cycle_over (Threading c) = thread.over c
cycle_over (Grooving c) = groove.over c
cycle_over (Drilling c) = drill.over c
cycle_over (Single k) = false

abbrev pub over : Plan → Due → Bool
over p (Turning c) = turn.over c && not p.stops
over p (Threading c) = thread.over c && not p.stops
over p (Grooving c) = groove.over c && not p.stops
over p (Drilling c) = drill.over c && not p.stops
over p (Single k) = stage_over k

-- ---- what the contracts say
-- what is kept of what is due: the cycle's own
abbrev pub DueSound : Due → Type 0
DueSound (Turning c) = turn.Sound c
DueSound (Threading c) = thread.Sound c
DueSound (Grooving c) = groove.Sound c
DueSound (Drilling c) = drill.Sound c
DueSound (Single k) = Unit {0}

-- what is kept of a plan: its deed is sound, and is not itself the record of a word before the deed
pub record Planned (p : Plan) : Type 0 where
  pub deed : DueSound p.deed
  pub later : (l : List Record) → rest_from p l p.deed ≡ deed_row p

-- of a block that is opened
pub record Sound (p : Plan) (d : Due) : Type 0 where
  pub plan : Planned p
  pub due : DueSound d

-- one record: the first of what is left, and what is due behind it
pub record Makes (p : Plan) (d : Due) (made : Record) (behind : Due) : Type 0 where
  pub first : rest_of p d ≡ made ∷ rest_of p behind
  pub sound : Sound p behind

-- a row that is due next in a plan
pub record Follows (p : Plan) (row : List Record) (d : Due) : Type 0 where
  pub same : rest_of p d ≡ row
  pub sound : DueSound d
