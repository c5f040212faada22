-- Rows of records that a wrong program would write, and that `Turned` rules out.
-- Assumes nothing.
use mathlib.Core.Path.{◌≡◌, refl, sym, ap, ◌∙◌, subst}
use mathlib.Core.Bool.{true, false, false≢true}
use mathlib.Core.List.{List, [], ◌∷◌, map}
use Prim.Native.Nat.{ℕ}
use native.Mathlib.Omega.{arith}
use lib.IntN.{ℤ, pos, negsuc}
use lib.ListN.{length}
use Rattle.division.specs.Division.{Evenly}
use Rattle.whole.proofs.Integers.{whole, up}
use Rattle.division.proofs.RuledOut.{thin_last, copied_first}
use Rattle.moves.specs.declared.Record.{Record}
use Rattle.axes.specs.Axis.{side}
use Rattle.axes.specs.Goes.{rapid_to, feed_to}
use Rattle.turning.specs.declared.Turning.{Turning}
use Rattle.turning.specs.Turning.{pass_for, pass_on, passes}
use Rattle.turning.specs.Turned.{pass_lines, each_depth, Depths, FeedsWithin, Turned}
use Rattle.turning.proofs.Examples.{listed}

-- depths that are whole numbers are those whole numbers
up_pos : (row : List ℕ) → map up (map pos row) ≡ row
up_pos [] = refl
up_pos (d ∷ row) = ap (λ (r : List ℕ). d ∷ r) (up_pos row)

depths_row : {e d : ℕ} {zs : List ℤ} → Depths e d zs → Evenly e d (map up zs)
depths_row {e} {d} v = subst (Evenly e d) (sym (ap (map up) v.is ∙ up_pos v.row)) v.evenly

-- a longitudinal cycle from X20. to an X target, with nothing left, the division 3,000
abbrev pub up_to : ℤ → Turning
up_to target = record {
  facing = false;
  infeed = record { start = pos 20000; target = target; allowance = 0 };
  path = record { start = pos 0; target = pos 100; allowance = 0 };
  division = 3000;
  f = 120;
  g95 = true;
}

-- its passes, of the depths of a row, right or wrong
abbrev pub cut_as : Turning → List ℕ → List Record
cut_as c ds = passes (pass_on (pass_for c)) (side c.infeed) c.infeed.start ds

-- THE FIRST DEPTH COPIED to all passes, where 10,001 was to be divided: the first is right, the others copy it
pub first_copied : Turned (up_to (pos 9999)) (cut_as (up_to (pos 9999)) (2501 ∷ 2501 ∷ 2501 ∷ 2501 ∷ [])) → ⊥
unfolding rapid_to feed_to pass_on passes pass_lines each_depth
first_copied t = copied_first (depths_row (t.divided (omega arith)))

-- A THIN LAST PASS, where 10,000 was to be divided: full pieces were divided off
pub thin_last_pass : Turned (up_to (pos 10000)) (cut_as (up_to (pos 10000)) (3000 ∷ 3000 ∷ 3000 ∷ 1000 ∷ [])) → ⊥
unfolding rapid_to feed_to pass_on passes pass_lines each_depth
thin_last_pass t = thin_last (depths_row (t.divided (omega arith)))

-- A FEED PAST THE ALLOWANCE of the path: the passes of the listed block end at its Z target, though D2 leaves 100
pub to_the_target : Turned listed
    (rapid_to false (pos 35400) (pos 2000)
    ∷ feed_to false 120 true (pos 35400) (negsuc 19999)
    ∷ feed_to false 120 true (pos 40000) (negsuc 19999)
    ∷ rapid_to false (pos 40000) (pos 2000)
    ∷ rapid_to false (pos 30800) (pos 2000)
    ∷ feed_to false 120 true (pos 30800) (negsuc 19999)
    ∷ feed_to false 120 true (pos 40000) (negsuc 19999)
    ∷ rapid_to false (pos 40000) (pos 2000)
    ∷ []) → ⊥
unfolding rapid_to feed_to FeedsWithin
to_the_target t = let k = (t.kept.1.0 refl).to.path in absurd (omega (whole, k))

-- and past that of the infeed, with no division: one pass on the X target, though D0 leaves 800
abbrev pub undivided : Turning
undivided = record { facing = false; infeed = listed.infeed; path = listed.path; division = 0; f = 120; g95 = true }

pub all_of_the_infeed : Turned undivided (cut_as undivided (10000 ∷ [])) → ⊥
unfolding rapid_to feed_to pass_on passes FeedsWithin
all_of_the_infeed t = let k = (t.kept.1.0 refl).to.infeed in absurd (omega (whole, k))

-- A CUT FROM TOO DEEP: each pass of the listed block begins on the X target, though D0 leaves 800, and its feed ends where it should
pub cut_from_too_deep : Turned listed
    (rapid_to false (pos 30000) (pos 2000)
    ∷ feed_to false 120 true (pos 35400) (negsuc 19899)
    ∷ feed_to false 120 true (pos 40000) (negsuc 19899)
    ∷ rapid_to false (pos 40000) (pos 2000)
    ∷ rapid_to false (pos 30000) (pos 2000)
    ∷ feed_to false 120 true (pos 30800) (negsuc 19899)
    ∷ feed_to false 120 true (pos 40000) (negsuc 19899)
    ∷ rapid_to false (pos 40000) (pos 2000)
    ∷ []) → ⊥
unfolding rapid_to feed_to FeedsWithin
cut_from_too_deep t = let k = (t.kept.1.0 refl).from.infeed in absurd (omega (whole, k))

-- A CUT ON A SLANT, which would be no pass and so no depth, at the head of any row of records of the listed block
pub slanted : (rs : List Record) → Turned listed
    (rapid_to false (pos 30801) (pos 2000)
    ∷ feed_to false 120 true (pos 30800) (negsuc 19899)
    ∷ rs) → ⊥
unfolding rapid_to feed_to FeedsWithin
slanted rs t = false≢true (t.kept.1.0 refl).straight

-- NOTHING WRITTEN, with no division: no pass at all, where one of all of the infeed less the allowance was to be
pub nothing_written : Turned undivided [] → ⊥
unfolding pass_lines each_depth
nothing_written t = absurd (omega (arith, ap length (t.single refl)))
