-- The plan of a block without its deed, and the block that it came from, as words stand for them.
use Rattle.std.specs.Prelude.{◌≡◌, List, ℕ, ◌+◌}
use Rattle.moves.specs.declared.Record.{Record}
use Rattle.moves.specs.declared.Origin.{Origin}
use Rattle.stages.specs.declared.Due.{Due}
use Rattle.stages.specs.declared.Own.{Own}
use Rattle.stages.specs.declared.Plan.{Plan}
use Rattle.cells.specs.Numbers.{at, flag_at, signed_at, byte_at, short_at}

-- how many words a plan takes, and a record in it
abbrev pub plan_words : ℕ
plan_words = 27

abbrev pub record_words : ℕ
record_words = 5

unfoldable pub origin_of : List ℕ → Origin
origin_of w = record { program = short_at w 0; block = short_at w 1 }

abbrev pub record_at : List ℕ → ℕ → Record
record_at w k = record { kind = byte_at w k; flags = byte_at w (k + 1); x = signed_at w (k + 2); z = signed_at w (k + 3); value = at w (k + 4) }

abbrev pub own_at : List ℕ → ℕ → Own
own_at w k = record { goes = record_at w k; centre = record_at w (k + 5); has_centre = flag_at w (k + 10) }

unfoldable pub plan_of : List ℕ → Due → Plan
plan_of w d = record {
  x = signed_at w 2;
  z = signed_at w 3;
  speed = at w 4;
  tool = at w 5;
  spindle = at w 6;
  coolant = at w 7;
  own = own_at w 8;
  x_behind = signed_at w 19;
  z_behind = signed_at w 20;
  stop = at w 21;
  has_tool = flag_at w 22;
  has_spindle = flag_at w 23;
  has_coolant = flag_at w 24;
  stops = flag_at w 25;
  g96 = flag_at w 26;
  deed = d;
}

-- the words of a plan behind those of its deed's records
pub record Tail (w : List ℕ) (p : Plan) : Type 0 where
  pub x : signed_at w 0 ≡ p.x_behind
  pub z : signed_at w 1 ≡ p.z_behind
  pub stop : at w 2 ≡ p.stop
  pub tool : flag_at w 3 ≡ p.has_tool
  pub spindle : flag_at w 4 ≡ p.has_spindle
  pub coolant : flag_at w 5 ≡ p.has_coolant
  pub stops : flag_at w 6 ≡ p.stops
  pub g96 : flag_at w 7 ≡ p.g96
