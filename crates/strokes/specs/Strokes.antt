-- THE LAW OF THE FOUR CYCLES. 02, request 9: "State one law for G84, G86, G87 and G88: the depths add up to the stroke." It is said of a row of records alone, whoever made it: the depths are read off
-- the feeds, and of a cycle only the way that it goes in is cited.
use Rattle.std.specs.Prelude.{◌≡◌, Bool, true, false, cond, ◌&&◌, List, [], ◌∷◌, map, ℕ, ◌<◌, ltb, eqb, ℤ, pos, ◌-ℤ◌, nat_abs}
use Rattle.whole.specs.declared.Side.{Side}
use Rattle.division.specs.Division.{sum}
use Rattle.moves.specs.declared.Record.{Record}
use Rattle.axes.specs.Axis.{side, net}
use Rattle.axes.specs.Goes.{inward_of, across_of}
use Rattle.turning.specs.declared.Turning.{Turning}
use Rattle.turning.specs.Turning as turn
use Rattle.turning.specs.Turned.{feed_kind, each_depth}
use Rattle.grooving.specs.declared.Groove.{Groove}
use Rattle.grooving.specs.Grooving as groove
use Rattle.drilling.specs.declared.Bore.{Bore}
use Rattle.drilling.specs.Drilling as drill

-- the way in: which axis goes in (Z where facing, else X), where it starts, to which side, and how far in all
pub record Inward : Type 0 where
  pub facing : Bool
  pub start : ℤ
  pub side : Side
  pub stroke : ℕ

-- ---- reading the records
-- a feed that cuts at the place a across: it ends there, and on the axis that goes in it ends elsewhere than at the start
unfoldable pub cuts_at : Inward → ℤ → Record → Bool
cuts_at w a r = eqb r.kind feed_kind && (eqb (nat_abs (across_of w.facing r -ℤ a)) 0 && ltb 0 (nat_abs (inward_of w.facing r -ℤ w.start)))

-- the lines on which such feeds end, one after the other
unfoldable pub lines_at : Inward → ℤ → List Record → List ℤ
lines_at w a [] = []
lines_at w a (r ∷ rs) = cond (cuts_at w a r) (inward_of w.facing r ∷ lines_at w a rs) (lines_at w a rs)

-- the depths there, toward the target: each line against the one before, the first against the start
abbrev pub depths_at : Inward → ℤ → List Record → List ℤ
depths_at w a rs = each_depth w.side w.start (lines_at w a rs)

-- ---- the promise
abbrev pub Above : List ℕ → Type 0
Above [] = Unit {0}
Above (d ∷ ds) = (0 < d) × Above ds

-- depths are whole numbers above 0 that add up to the stroke
pub record AddUp (stroke : ℕ) (zs : List ℤ) : Type 0 where
  pub row : List ℕ
  pub is : zs ≡ map pos row
  pub above : Above row
  pub whole : sum row ≡ stroke

-- at a place across nothing is cut, or depths that add up
pub data Cut (stroke : ℕ) (zs : List ℤ) : Type 0 where
  untouched : zs ≡ [] → Cut stroke zs
  cut : AddUp stroke zs → Cut stroke zs

pub record DepthsAddUp (w : Inward) (rs : List Record) : Type 0 where
  -- there is a place across where it cuts
  pub place : ℤ
  pub there : AddUp w.stroke (depths_at w place rs)
  -- and wherever it cuts, the depths add up to the stroke
  pub each : (a : ℤ) → Cut w.stroke (depths_at w a rs)

-- ---- the four cycles. G87 and G88 are one struct
pub data Cutting : Type 0 where
  g84 : Turning → Cutting
  g86 : Groove → Cutting
  g87_88 : Bore → Cutting

-- refused by alarm 19
unfoldable pub refused : Cutting → Bool
refused (g84 c) = turn.too_short c
refused (g86 g) = groove.wrong g
refused (g87_88 b) = drill.wrong b

-- G84: a depth is that of a pass, and the stroke the infeed less the allowance. G86: a depth is that of a cut of a plunge, and the stroke the depth of the groove. G87 and G88: a depth is a bite, and the
-- stroke the way in Z
unfoldable pub inward : Cutting → Inward
inward (g84 c) = record { facing = c.facing; start = c.infeed.start; side = side c.infeed; stroke = net c.infeed }
inward (g86 g) = record { facing = g.facing; start = g.depth.start; side = groove.way_of g.depth; stroke = groove.length_of g.depth }
inward (g87_88 b) = record { facing = true; start = b.start; side = drill.way_of b; stroke = drill.stroke_of b }

unfoldable pub records : Cutting → List Record
records (g84 c) = turn.turning c
records (g86 g) = groove.grooving g
records (g87_88 b) = drill.drilling b

-- THE LAW: proofs/FourCycles.antt. That it holds of the records of every such block of a run is said in `demands`
abbrev pub FourCycles : Type 0
FourCycles = (c : Cutting) → refused c ≡ false → DepthsAddUp (inward c) (records c)
