-- The promise of arcs, said of a row of records alone, whoever made it. The arc that two records tell stands in arcs/specs/Told.antt.
use Rattle.std.specs.Prelude.{◌≡◌, true, false, List, ◌∷◌, ◌++◌, ℕ, ℤ}
use Rattle.settings.specs.declared.Limits.{Limits}
use Rattle.moves.specs.declared.Record.{Record}
use Rattle.moves.specs.Kinds.{is_arc}
use Rattle.moves.specs.Last.{last_of}
use Rattle.arcs.specs.declared.Arc.{Arc}
use Rattle.arcs.specs.Told.{told_by, paired}
use Rattle.straying.specs.Points.{OnArc, Widened, Passed}

-- an arc of a row of records that begins at x, z: from where the records before it leave the axes
pub record ArcAmong (x z : ℤ) (rs : List Record) (a : Arc) : Type 0 where
  pub before : List Record
  pub goes : Record
  pub around : Record
  pub behind : List Record
  pub are : rs ≡ before ++ (goes ∷ (around ∷ behind))
  pub arc : is_arc goes.kind ≡ true
  pub is : a ≡ told_by (last_of (λ r. r.x) x before) (last_of (λ r. r.z) z before) goes around

-- what is promised of an arc: no test refuses it, and each of its points stays within the limits widened by 10 micrometres per side
pub record KeepsTo (l : Limits) (a : Arc) : Type 0 where
  pub passed : Passed l a
  pub points : (q : ℕ) (x z : ℤ) → OnArc a q x z → Widened l q x z

-- THE PROMISE, of a row of records that begins at x, z
pub record ArcsKeep (l : Limits) (x z : ℤ) (rs : List Record) : Type 0 where
  pub pairs : paired false rs ≡ true
  pub each : (a : Arc) → ArcAmong x z rs a → KeepsTo l a
