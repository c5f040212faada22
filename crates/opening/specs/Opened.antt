-- What is known where a block is opened. It serves contracts and proofs.
use Rattle.std.specs.Prelude.{◌≡◌, Bool, true, false, List, ◌∷◌, ◌++◌, pos}
use Rattle.moves.specs.Kinds.{rapid}
use Rattle.moves.specs.declared.Record.{Record}
use Rattle.arcs.specs.Arcs.{end_record, centre_record}
use Rattle.block.specs.Slots.{has, s_slot, t_slot, spindle_slot, flow_slot, coolant_slot, code_in}
use Rattle.block.specs.declared.Block.{Block}
use Rattle.state.specs.declared.State.{State}
use Rattle.asking.specs.Judge.{doing}
use Rattle.deeds.specs.declared.Deed.{Deed}
use Rattle.deeds.specs.declared.Deed.TheVariants as deed
use Rattle.deeds.specs.declared.Round.{Round}
use Rattle.writing.specs.Writes.{one_if, done, stops}
use Rattle.stages.specs.Cursor.{behind_deed, rest_from, DueSound}
use Rattle.stages.specs.declared.Due.{Due}
use Rattle.stages.specs.declared.Own.{Own}
use Rattle.stages.specs.declared.Plan.{Plan}

-- a record that no centre follows, and the two records of an arc
unfoldable pub alone : Record → Own
alone r = record { goes = r; centre = r; has_centre = false }

unfoldable pub own_of_round : Round → Own
own_of_round r = record { goes = end_record r.arc r.f r.g95; centre = centre_record r.arc; has_centre = true }

-- the deed's records where it is no cycle, and for a deed that has none one that no one asks for
unfoldable pub own_in : Deed → Own
own_in deed.Nothing = alone (rapid (pos 0) (pos 0))
own_in deed.Nowhere = alone (rapid (pos 0) (pos 0))
own_in (deed.Dwell r) = alone r
own_in (deed.Straight m) = alone m.goes
own_in (deed.Round r) = own_of_round r
own_in (deed.Cycle c) = alone (rapid (pos 0) (pos 0))

-- these records as a row
abbrev pub own_row : Own → List Record
own_row o = o.goes ∷ one_if o.has_centre o.centre

-- a row that is due next, whatever the block beside it
pub record Opens (row : List Record) (d : Due) : Type 0 where
  pub same : (p : Plan) (l : List Record) → rest_from p l d ≡ row ++ behind_deed p
  pub sound : DueSound d

-- the deed's, in a plan that has its records
pub record OpensDeed (d : Deed) (stops : Bool) (r : Due) : Type 0 where
  pub same : (p : Plan) (l : List Record) → p.own ≡ own_in d → p.stops ≡ stops → rest_from p l r ≡ doing d ++ behind_deed p
  pub sound : DueSound r

-- a plan for a block
pub record IsPlan (s : State) (b : Block) (d : Deed) (p : Plan) : Type 0 where
  pub x : p.x ≡ s.x
  pub z : p.z ≡ s.z
  pub g96 : p.g96 ≡ s.g96
  pub speed : p.speed ≡ code_in b s_slot
  pub tool : p.tool ≡ code_in b t_slot
  pub spindle : p.spindle ≡ code_in b spindle_slot
  pub coolant : p.coolant ≡ code_in b coolant_slot
  pub stop : p.stop ≡ code_in b flow_slot
  pub x_behind : p.x_behind ≡ (done s d).x
  pub z_behind : p.z_behind ≡ (done s d).z
  pub has_tool : p.has_tool ≡ has b t_slot
  pub has_spindle : p.has_spindle ≡ has b spindle_slot
  pub has_coolant : p.has_coolant ≡ has b coolant_slot
  pub stops : p.stops ≡ stops b
  pub own : p.own ≡ own_in d
  pub deed : OpensDeed d p.stops p.deed
