-- The ranges of an arc that a block gives, by which no product of the code wraps. They serve contracts and proofs.
use Rattle.std.specs.Prelude.{◌≡◌, true, ℕ, ◌≤◌, nat_abs, ◌-ℤ◌}
use Rattle.whole.specs.Position.{in_table}
use Rattle.settings.specs.declared.Limits.{Limits}
use Rattle.arrows.specs.declared.Spot.{Spot}
use Rattle.arcs.specs.declared.Arc.{Arc}
use Rattle.arcs.specs.declared.CentreWords.{CentreWords}

-- no block sends an axis so far
abbrev pub target_reach : ℕ
target_reach = 100_000_000

-- no start lies farther from its centre, on X or on Z: I and K are in the table's range, and the centre of any list within three times it
abbrev pub start_reach : ℕ
start_reach = 40_000_000

-- and no end that a block gives, and no limit
abbrev pub end_reach : ℕ
end_reach = 120_000_000

pub record InReach (a : Arc) : Type 0 where
  pub start_x : nat_abs (a.start.x -ℤ a.centre.x) ≤ start_reach
  pub start_z : nat_abs (a.start.z -ℤ a.centre.z) ≤ start_reach
  pub end_x : nat_abs (a.end.x -ℤ a.centre.x) ≤ end_reach
  pub end_z : nat_abs (a.end.z -ℤ a.centre.z) ≤ end_reach

pub record LimitsInReach (l : Limits) (a : Arc) : Type 0 where
  pub low_x : nat_abs (l.x.lowest -ℤ a.centre.x) ≤ end_reach
  pub high_x : nat_abs (l.x.highest -ℤ a.centre.x) ≤ end_reach
  pub low_z : nat_abs (l.z.lowest -ℤ a.centre.z) ≤ end_reach
  pub high_z : nat_abs (l.z.highest -ℤ a.centre.z) ≤ end_reach

-- the start, I and K in the table's range: the centre then fits
pub record Central (start : Spot) (words : CentreWords) : Type 0 where
  pub x : in_table start.x ≡ true
  pub z : in_table start.z ≡ true
  pub i : in_table words.i ≡ true
  pub k : in_table words.k ≡ true
