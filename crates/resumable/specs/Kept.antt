-- WHAT IS KEPT of a block that is opened: what is due, and the deed alone while a record of a word before it is due.
use Rattle.std.specs.Prelude.{◌≡◌, Bool, true, false, cond}
use Rattle.stages.specs.Cursor.{DueSound}
use Rattle.stages.specs.declared.Stage.{Stage}
use Rattle.stages.specs.declared.Stage.TheVariants.{Speed, Tool, Spindle, Coolant, Deed, Centre, Stop, Over}
use Rattle.stages.specs.declared.Due.{Due}
use Rattle.stages.specs.declared.Due.TheVariants.{Turning, Threading, Grooving, Drilling, Single}
use Rattle.stages.specs.declared.Plan.{Plan}

-- the record of a word before the deed
abbrev pub leads : Stage → Bool
leads Speed = true
leads Tool = true
leads Spindle = true
leads Coolant = true
leads Deed = false
leads Centre = false
leads Stop = false
leads Over = false

abbrev pub is_lead : Due → Bool
is_lead (Turning c) = false
is_lead (Threading c) = false
is_lead (Grooving c) = false
is_lead (Drilling c) = false
is_lead (Single k) = leads k

-- what is kept of a deed, and of what is due: the deed while it is whole
abbrev pub kept : Due → Due → Due
kept deed (Turning c) = Turning c
kept deed (Threading c) = Threading c
kept deed (Grooving c) = Grooving c
kept deed (Drilling c) = Drilling c
kept deed (Single k) = cond (leads k) deed (Single k)

-- a plan with another deed
abbrev pub with_deed : Plan → Due → Plan
with_deed p d = record {
  x = p.x;
  z = p.z;
  speed = p.speed;
  tool = p.tool;
  spindle = p.spindle;
  coolant = p.coolant;
  own = p.own;
  x_behind = p.x_behind;
  z_behind = p.z_behind;
  stop = p.stop;
  has_tool = p.has_tool;
  has_spindle = p.has_spindle;
  has_coolant = p.has_coolant;
  stops = p.stops;
  g96 = p.g96;
  deed = d;
}

-- what is kept and can go on: it is sound, and it is the deed or comes behind it
pub record Fits (d : Due) : Type 0 where
  pub sound : DueSound d
  pub deeds : is_lead d ≡ false
