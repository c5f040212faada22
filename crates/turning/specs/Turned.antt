-- DEMAND 3: what a turning cycle promises, said of a row of records alone, whoever made it. Of the cycle its axes, their sides, lengths and allowance lines, and its division
-- are cited, and nothing of how records are made. "The pass depths add up exactly to the infeed less the allowance, none is above the division, no row within the division with that sum is shorter, none equally
-- short has a smaller greatest depth. With or without a division no feed move of the cycle goes past the allowance in either axis."
use Rattle.std.specs.Prelude.{◌≡◌, true, cond, ◌&&◌, ◌||◌, List, [], ◌∷◌, map, ℕ, ◌<◌, ltb, eqb, ℤ, pos, ◌-ℤ◌, nat_abs, ◌≤ℤ◌}
use Rattle.whole.specs.declared.Side.{Side}
use Rattle.whole.specs.declared.Side.TheVariants.{Minus, Zero, Plus}
use Rattle.division.specs.Division.{Evenly}
use Rattle.moves.specs.declared.Record.{Record}
use Rattle.axes.specs.declared.Axis.{Axis}
use Rattle.axes.specs.Axis.{side, net, allowance_line}
use Rattle.axes.specs.Goes.{inward_of, across_of}
use Rattle.turning.specs.declared.Turning.{Turning}

-- ---- reading the records
-- a feed record
abbrev pub feed_kind : ℕ
feed_kind = 2

-- a pass is a feed that moves along the path and not in or out: the lines on which the passes cut, of records that begin at i on the infeed axis and p on the path
unfoldable pub pass_lines : Turning → ℤ → ℤ → List Record → List ℤ
pass_lines c i p [] = []
pass_lines c i p (r ∷ rs) =
    let j = inward_of c.facing r in
    let q = across_of c.facing r in
    cond (eqb r.kind feed_kind && (eqb (nat_abs (j -ℤ i)) 0 && ltb 0 (nat_abs (q -ℤ p)))) (j ∷ pass_lines c j q rs) (pass_lines c j q rs)

-- how far b lies beyond a, toward a side
abbrev pub beyond : Side → ℤ → ℤ → ℤ
beyond Plus a b = b -ℤ a
beyond Minus a b = a -ℤ b
beyond Zero a b = pos 0

-- each line against the one before, the first against l
unfoldable pub each_depth : Side → ℤ → List ℤ → List ℤ
each_depth s l [] = []
each_depth s l (k ∷ ks) = beyond s l k ∷ each_depth s k ks

-- the depths of the passes, toward the target: each pass line against the one before, the first against the start
abbrev pub depths : Turning → List Record → List ℤ
depths c rs = each_depth (side c.infeed) c.infeed.start (pass_lines c c.infeed.start c.path.start rs)

-- ---- the promise
-- the depths are whole numbers that divide e evenly with the greatest piece d
pub record Depths (e d : ℕ) (zs : List ℤ) : Type 0 where
  pub row : List ℕ
  pub is : zs ≡ map pos row
  pub evenly : Evenly e d row

-- a place not past the allowance line of an axis
abbrev pub NotPast : Axis → ℤ → Type 0
NotPast a z = pos 0 ≤ℤ beyond (side a) z (allowance_line a)

-- a place of both axes not past the allowance
pub record Within (c : Turning) (i p : ℤ) : Type 0 where
  pub infeed : NotPast c.infeed i
  pub path : NotPast c.path p

-- a feed from i and p to j and q begins and ends within the allowance, and so does what lies between; it moves on one axis, so that it is a pass or none
pub record Feeds (c : Turning) (i p j q : ℤ) : Type 0 where
  pub from : Within c i p
  pub to : Within c j q
  pub straight : (eqb (nat_abs (j -ℤ i)) 0 || eqb (nat_abs (q -ℤ p)) 0) ≡ true

-- every feed of a row of records that begins at i and p is such a feed
unfoldable pub FeedsWithin : Turning → ℤ → ℤ → List Record → Type 0
FeedsWithin c i p [] = Unit {0}
FeedsWithin c i p (r ∷ rs) =
    let j = inward_of c.facing r in
    let q = across_of c.facing r in
    (r.kind ≡ feed_kind → Feeds c i p j q) × FeedsWithin c j q rs

-- what a row of records promises of a cycle that is not too short
pub record Turned (c : Turning) (rs : List Record) : Type 0 where
  -- with a division the depths divide the infeed less the allowance evenly
  pub divided : 0 < c.division → Depths (net c.infeed) c.division (depths c rs)
  -- without one there is one pass of all of it
  pub single : c.division ≡ 0 → depths c rs ≡ pos (net c.infeed) ∷ []
  -- no feed goes past the allowance in either axis
  pub kept : FeedsWithin c c.infeed.start c.path.start rs
