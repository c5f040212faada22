-- 001's examples of G85, as 02 reads them, computed from the definitions.
-- Assumes nothing.
use mathlib.Core.Path.{◌≡◌, refl}
use mathlib.Core.Bool.{Bool, true, false, cond}
use mathlib.Core.List.{List, [], ◌∷◌, map}
use Prim.Native.Nat.{ℕ}
use native.Mathlib.Omega.{arith}
use lib.IntN.{ℤ, pos, negsuc}
use lib.ListN.{replicate}
use Rattle.whole.proofs.Integers.{whole}
use Rattle.division.specs.Division.{count, pieces, divided}
use Rattle.roots.specs.Roots.{nearer, root_in, root}
use Rattle.moves.specs.declared.Record.{Record}
use Rattle.moves.specs.Kinds.{rapid, thread}
use Rattle.axes.specs.Goes.{rapid_to, thread_to}
use Rattle.depths.specs.Depths.{running, cuts, cut_count, depths}
use Rattle.threading.specs.declared.Thread.{Thread}
use Rattle.threading.specs.Bits.{is_nominal, is_number, rule_of}
use Rattle.threading.specs.Threading.{wide, bottom, crest, line_at, many_cuts, crest_beyond, wrong, pass_on, passes, repeated, pass_depths, threading, record_count, Told}

-- the lines of all passes
abbrev lines_of : Thread → List ℤ
lines_of t = map (line_at t) (pass_depths t)

-- the first example: `G85 X27.546 Z-42.000 D3=600 D6=1277 F2000` from X31. Z2., with one empty cut
abbrev pub first : Thread
first = record {
  facing = false;
  infeed = record { start = pos 31000; target = pos 27546; allowance = 0 };
  path = record { start = pos 2000; target = negsuc 41999; allowance = 0 };
  rule = rule_of 0;
  nominal = is_nominal 0;
  d3 = 600;
  d6 = 1277;
  empty = 1;
  pitch = 2000;
}

-- a pass of it on the line l
abbrev pub pass_at : ℤ → List Record → List Record
pass_at l rs = rapid l (pos 2000) ∷ thread l (negsuc 41999) 2000 ∷ rapid (pos 31000) (negsuc 41999) ∷ rapid (pos 31000) (pos 2000) ∷ rs

pub first_records : threading first ≡ pass_at (pos 28900) (pass_at (pos 28404) (pass_at (pos 28022) (pass_at (pos 27700) (pass_at (pos 27546) (pass_at (pos 27546) [])))))
unfolding nearer root_in root count rule_of cut_count cuts depths wide crest rapid_to thread_to pass_on passes repeated threading
first_records = refl

pub first_count : record_count first ≡ 24
unfolding count rule_of cut_count record_count
first_count = refl

pub first_right : wrong first ≡ false
unfolding rule_of wide many_cuts crest_beyond wrong
first_right = refl

-- so what the code asks of its callers is met
pub first_told : Told first
unfolding wide bottom
first_told = record { d3 = omega arith; d6 = omega arith; empty = omega arith; bottom = omega whole }

-- the fourth, facing: `G85 Z-1.840 X6.000 D3=600 D6=1840 F3000` from X46. Z0.5: ten cuts and an empty one
abbrev pub faced : Thread
faced = record {
  facing = true;
  infeed = record { start = pos 500; target = negsuc 1839; allowance = 0 };
  path = record { start = pos 46000; target = pos 6000; allowance = 0 };
  rule = rule_of 0;
  nominal = is_nominal 0;
  d3 = 600;
  d6 = 1840;
  empty = 1;
  pitch = 3000;
}

pub faced_lines : lines_of faced
    ≡ negsuc 599 ∷ negsuc 847 ∷ negsuc 1038 ∷ negsuc 1199 ∷ negsuc 1340 ∷ negsuc 1468 ∷ negsuc 1586 ∷ negsuc 1696 ∷ negsuc 1799 ∷ negsuc 1839 ∷ negsuc 1839 ∷ []
unfolding nearer root_in root count rule_of cut_count cuts depths wide crest repeated
faced_lines = refl

pub faced_count : record_count faced ≡ 44
unfolding count rule_of cut_count record_count
faced_count = refl

pub faced_right : wrong faced ≡ false
unfolding rule_of wide many_cuts crest_beyond wrong
faced_right = refl

-- every D7 on one thread: `G85 X27.546 Z-40.000 D3=600 D4=0 D6=1227 D7=k F2000`, X30.000 with bit 2, D3=6 with bit 4
abbrev pub third : ℕ → Thread
third k = record {
  facing = false;
  infeed = record { start = pos 31000; target = cond (is_nominal k) (pos 30000) (pos 27546); allowance = 0 };
  path = record { start = pos 2000; target = negsuc 39999; allowance = 0 };
  rule = rule_of k;
  nominal = is_nominal k;
  d3 = cond (is_number k) 6 600;
  d6 = 1227;
  empty = 0;
  pitch = 2000;
}

abbrev fallen : List ℤ
fallen = pos 28800 ∷ pos 28304 ∷ pos 27922 ∷ pos 27600 ∷ pos 27546 ∷ []

abbrev even : List ℤ
even = pos 29182 ∷ pos 28364 ∷ pos 27546 ∷ []

abbrev six_fallen : List ℤ
six_fallen = pos 29000 ∷ pos 28584 ∷ pos 28266 ∷ pos 27998 ∷ pos 27760 ∷ pos 27546 ∷ []

abbrev six_even : List ℤ
six_even = pos 29590 ∷ pos 29180 ∷ pos 28770 ∷ pos 28362 ∷ pos 27954 ∷ pos 27546 ∷ []

-- k and k + 2 give the same lines
pub third_lines : map (λ (k : ℕ). lines_of (third k)) (0 ∷ 1 ∷ 2 ∷ 3 ∷ 4 ∷ 5 ∷ 6 ∷ 7 ∷ [])
    ≡ fallen ∷ even ∷ fallen ∷ even ∷ six_fallen ∷ six_even ∷ six_fallen ∷ six_even ∷ []
unfolding nearer root_in root count pieces divided rule_of cut_count running cuts depths wide crest repeated
third_lines = refl

pub third_right : map (λ (k : ℕ). wrong (third k)) (0 ∷ 1 ∷ 2 ∷ 3 ∷ 4 ∷ 5 ∷ 6 ∷ 7 ∷ []) ≡ replicate 8 false
unfolding rule_of wide many_cuts crest_beyond wrong
third_right = refl

-- ---- alarm 19, on the first example's start and path
abbrev pub asked : Bool → ℤ → ℕ → ℕ → ℕ → Thread
asked facing target d7 d e = record {
  facing = facing;
  infeed = record { start = pos 31000; target = target; allowance = 0 };
  path = first.path;
  rule = rule_of d7;
  nominal = is_nominal d7;
  d3 = d;
  d6 = e;
  empty = 1;
  pitch = 2000;
}

-- the crest on the start is good, one micrometre beyond is 19: a way of 3454 and of 3453 with D6 1727; facing, where D6 is not doubled, of 1727 and of 1726
pub crest_on_start : wrong (asked false (pos 27546) 0 600 1727) ∷ wrong (asked true (pos 29273) 0 600 1727) ∷ [] ≡ replicate 2 false
unfolding rule_of wide many_cuts crest_beyond wrong
crest_on_start = refl

pub crest_beyond_start : wrong (asked false (pos 27547) 0 600 1727) ∷ wrong (asked true (pos 29274) 0 600 1727) ∷ [] ≡ replicate 2 true
unfolding rule_of wide many_cuts crest_beyond wrong
crest_beyond_start = refl

-- with bit 2 the crest is the target, and never beyond; a target on the start is 19 all the same, and without bit 2 too
pub nominal_near : wrong (asked false (pos 30999) 2 600 1727) ≡ false
unfolding rule_of wide many_cuts crest_beyond wrong
nominal_near = refl

pub no_infeed : map (λ (k : ℕ). wrong (asked false (pos 31000) k 600 1727)) (0 ∷ 2 ∷ []) ≡ replicate 2 true
unfolding rule_of wide many_cuts crest_beyond wrong
no_infeed = refl

-- D3 or D6 zero
pub zero_words : wrong (asked false (pos 27546) 0 0 1727) ∷ wrong (asked false (pos 27546) 0 600 0) ∷ [] ≡ replicate 2 true
unfolding rule_of wide many_cuts crest_beyond wrong
zero_words = refl

-- a cut number that is D6 is good, one above is 19, constant or not; a depth may be above
pub cut_numbers : map (λ (k : ℕ). wrong (asked false (pos 27546) k 4 4)) (4 ∷ 5 ∷ []) ≡ replicate 2 false
unfolding rule_of wide many_cuts crest_beyond wrong
cut_numbers = refl

pub too_many_cuts : map (λ (k : ℕ). wrong (asked false (pos 27546) k 5 4)) (0 ∷ 1 ∷ 4 ∷ 5 ∷ []) ≡ false ∷ false ∷ true ∷ true ∷ []
unfolding rule_of wide many_cuts crest_beyond wrong
too_many_cuts = refl

-- a thread of no length is 19
pub no_length : wrong (record { facing = false; infeed = first.infeed; path = record { start = pos 2000; target = pos 2000; allowance = 0 }; rule = first.rule; nominal = false; d3 = 600; d6 = 1277; empty = 1; pitch = 2000 }) ≡ true
unfolding rule_of wide many_cuts crest_beyond wrong
no_length = refl

-- ---- either way, and facing
-- a thread that goes up: `G85 X22. Z-9. D3=500 D4=0 D6=500 F10` from X20. Z2. cuts on 22000, with D7=2 on 23000
abbrev pub upward : ℕ → Thread
upward k = record {
  facing = false;
  infeed = record { start = pos 20000; target = pos 22000; allowance = 0 };
  path = record { start = pos 2000; target = negsuc 8999; allowance = 0 };
  rule = rule_of k;
  nominal = is_nominal k;
  d3 = 500;
  d6 = 500;
  empty = 0;
  pitch = 10;
}

pub upward_lines : map (λ (k : ℕ). lines_of (upward k)) (0 ∷ 2 ∷ []) ≡ (pos 22000 ∷ []) ∷ (pos 23000 ∷ []) ∷ []
unfolding nearer root_in root count rule_of cut_count cuts depths wide crest repeated
upward_lines = refl

-- facing with bit 2 from Z31. to Z30.: the depth is in Z and not doubled
pub faced_nominal : lines_of (asked true (pos 30000) 6 2 100) ≡ pos 29930 ∷ pos 29900 ∷ pos 29900 ∷ []
unfolding nearer root_in root rule_of cuts depths wide crest repeated
faced_nominal = refl
