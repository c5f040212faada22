-- 01's own examples of G84, computed from the definitions.
-- Assumes nothing.
use mathlib.Core.Path.{◌≡◌, refl}
use mathlib.Core.Bool.{true, false}
use mathlib.Core.List.{[], ◌∷◌}
use Prim.Native.Nat.{ℕ, ◌*◌}
use lib.IntN.{pos, negsuc}
use Rattle.division.specs.Division.{count, pieces}
use Rattle.moves.specs.Kinds.{rapid, feed}
use Rattle.axes.specs.Goes.{rapid_to, feed_to}
use Rattle.turning.specs.declared.Turning.{Turning}
use Rattle.turning.specs.Turning.{too_short, pass_count, row, pass_on, passes, turning, record_count}

-- block N20 of the listing, `G84 X30. Z-20. D0=400 D2=100 D3=2500 F120` from X40. Z2.: D0 and D3 are per side
abbrev pub listed : Turning
listed = record {
  facing = false;
  infeed = record { start = pos 40000; target = pos 30000; allowance = 800 };
  path = record { start = pos 2000; target = negsuc 19999; allowance = 100 };
  division = 5000;
  f = 120;
  g95 = true;
}

pub listed_records : turning listed ≡
    rapid (pos 35400) (pos 2000)
    ∷ feed (pos 35400) (negsuc 19899) 120 true
    ∷ feed (pos 40000) (negsuc 19899) 120 true
    ∷ rapid (pos 40000) (pos 2000)
    ∷ rapid (pos 30800) (pos 2000)
    ∷ feed (pos 30800) (negsuc 19899) 120 true
    ∷ feed (pos 40000) (negsuc 19899) 120 true
    ∷ rapid (pos 40000) (pos 2000)
    ∷ []
unfolding count pieces rapid_to feed_to pass_count pass_on passes turning
listed_records = refl

pub listed_count : record_count listed ≡ 8
unfolding count pass_count record_count
listed_count = refl

-- facing, the axes are exchanged: `G84 Z-5. X20. D0=400 D2=99 D3=3500` under G94, from X40. Z2. The infeed is 7,000 less 99, the division D3 itself
abbrev pub faced : Turning
faced = record {
  facing = true;
  infeed = record { start = pos 2000; target = negsuc 4999; allowance = 99 };
  path = record { start = pos 40000; target = pos 20000; allowance = 800 };
  division = 3500;
  f = 120;
  g95 = false;
}

pub faced_records : turning faced ≡
    rapid (pos 40000) (negsuc 1450)
    ∷ feed (pos 20800) (negsuc 1450) 120 false
    ∷ feed (pos 20800) (pos 2000) 120 false
    ∷ rapid (pos 40000) (pos 2000)
    ∷ rapid (pos 40000) (negsuc 4900)
    ∷ feed (pos 20800) (negsuc 4900) 120 false
    ∷ feed (pos 20800) (pos 2000) 120 false
    ∷ rapid (pos 40000) (pos 2000)
    ∷ []
unfolding count pieces rapid_to feed_to pass_count pass_on passes turning
faced_records = refl

-- 02: "P9 becomes distance 800 with D0 400 and 399 (a step of 2)": D0 400 is alarm 19
abbrev pub shallow : ℕ → ℕ → Turning
shallow d0 division = record {
  facing = false;
  infeed = record { start = pos 40000; target = pos 39200; allowance = 2 * d0 };
  path = record { start = pos 2000; target = negsuc 19999; allowance = 0 };
  division = division;
  f = 120;
  g95 = true;
}

pub p9_refused : too_short (shallow 400 5000) ≡ true
unfolding too_short
p9_refused = refl

pub p9_taken : too_short (shallow 399 5000) ≡ false
unfolding too_short
p9_taken = refl

pub p9_row : row (shallow 399 5000) ≡ 2 ∷ []
unfolding count pieces pass_count
p9_row = refl

-- without a D3 too
pub p9_row_undivided : row (shallow 399 0) ≡ 2 ∷ []
unfolding count pieces pass_count
p9_row_undivided = refl

pub p9_records : turning (shallow 399 5000) ≡
    rapid (pos 39998) (pos 2000)
    ∷ feed (pos 39998) (negsuc 19999) 120 true
    ∷ feed (pos 40000) (negsuc 19999) 120 true
    ∷ rapid (pos 40000) (pos 2000)
    ∷ []
unfolding count pieces rapid_to feed_to pass_count pass_on passes turning
p9_records = refl
