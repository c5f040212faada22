-- 001's examples of G87 and G88, and edges of 02, computed from the definitions.
-- Assumes nothing.
use mathlib.Core.Path.{◌≡◌, refl}
use mathlib.Core.Bool.{Bool, true, false}
use mathlib.Core.List.{[], ◌∷◌}
use Prim.Native.Nat.{ℕ}
use native.Mathlib.Omega.{arith}
use lib.IntN.{pos}
use lib.ListN.{length}
use Rattle.whole.specs.Signed.{minus}
use Rattle.division.specs.Division.{count}
use Rattle.moves.specs.Kinds.{rapid, feed, dwell}
use Rattle.drilling.specs.declared.Bore.{Bore}
use Rattle.bites.specs.Bites.{next_bite, biting, has_zero}
use Rattle.drilling.specs.Drilling.{bites, wrong, clearing, boring, dwelling, drilling, record_count}
use Rattle.bites.proofs.Rows.{repeats_count}

-- "G00/X00.000/Z3.000", "G87/Z-26.000": a stroke of 29 mm
abbrev bore : Bool → ℕ → ℕ → ℕ → ℕ → Bore
bore full first dwell less least = record {
  full = full;
  x = pos 0;
  start = pos 3000;
  target = minus 26000;
  first = first;
  less = less;
  least = least;
  dwell = dwell;
  back = 500;
  f = 120;
  g95 = true;
}

-- example 1: one bite; G87 and G88 are the same
pub one_87 : drilling (bore false 0 0 0 0) ≡ feed (pos 0) (minus 26000) 120 true ∷ rapid (pos 0) (pos 3000) ∷ []
unfolding bites boring dwelling drilling
one_87 = refl

pub one_88 : drilling (bore true 0 0 0 0) ≡ drilling (bore false 0 0 0 0)
unfolding bites boring dwelling drilling
one_88 = refl

-- example 2: D3=6000
pub two_bites : bites (bore false 6000 0 0 0) ≡ 6000 ∷ 6000 ∷ 6000 ∷ 6000 ∷ 5000 ∷ []
unfolding next_bite biting bites
two_bites = refl

pub two_88 : drilling (bore true 6000 0 0 0)
    ≡ feed (pos 0) (minus 3000) 120 true ∷ rapid (pos 0) (pos 3000) ∷ rapid (pos 0) (minus 2500)
    ∷ feed (pos 0) (minus 9000) 120 true ∷ rapid (pos 0) (pos 3000) ∷ rapid (pos 0) (minus 8500)
    ∷ feed (pos 0) (minus 15000) 120 true ∷ rapid (pos 0) (pos 3000) ∷ rapid (pos 0) (minus 14500)
    ∷ feed (pos 0) (minus 21000) 120 true ∷ rapid (pos 0) (pos 3000) ∷ rapid (pos 0) (minus 20500)
    ∷ feed (pos 0) (minus 26000) 120 true ∷ rapid (pos 0) (pos 3000) ∷ []
unfolding next_bite biting bites clearing boring dwelling drilling
two_88 = refl

-- example 3: D3=7000 D4=50 D5=80 D6=3000; and with D5=20, 001's printed feeds
pub three_bites : bites (bore false 7000 50 80 3000) ≡ 7000 ∷ 3000 ∷ 3000 ∷ 3000 ∷ 3000 ∷ 3000 ∷ 3000 ∷ 3000 ∷ 1000 ∷ []
unfolding next_bite biting bites
three_bites = refl

pub printed_bites : bites (bore false 7000 50 20 3000) ≡ 7000 ∷ 5600 ∷ 4480 ∷ 3584 ∷ 3000 ∷ 3000 ∷ 2336 ∷ []
unfolding next_bite biting bites
printed_bites = refl

pub printed_87 : drilling (bore false 7000 50 20 3000)
    ≡ feed (pos 0) (minus 4000) 120 true ∷ rapid (pos 0) (minus 3500)
    ∷ feed (pos 0) (minus 9600) 120 true ∷ rapid (pos 0) (minus 9100)
    ∷ feed (pos 0) (minus 14080) 120 true ∷ rapid (pos 0) (minus 13580)
    ∷ feed (pos 0) (minus 17664) 120 true ∷ rapid (pos 0) (minus 17164)
    ∷ feed (pos 0) (minus 20664) 120 true ∷ rapid (pos 0) (minus 20164)
    ∷ feed (pos 0) (minus 23664) 120 true ∷ rapid (pos 0) (minus 23164)
    ∷ feed (pos 0) (minus 26000) 120 true ∷ dwell (pos 0) (minus 26000) 50 ∷ rapid (pos 0) (pos 3000) ∷ []
unfolding next_bite biting bites clearing boring dwelling drilling
printed_87 = refl

pub printed_count_87 : record_count (bore false 7000 50 20 3000) ≡ 15
unfolding next_bite biting bites record_count
printed_count_87 = refl

pub printed_count_88 : record_count (bore true 7000 50 20 3000) ≡ 21
unfolding next_bite biting bites record_count
printed_count_88 = refl

-- D6 above D3: stroke 10, D3 2, D6 5
abbrev short : ℕ → ℕ → ℕ → Bore
short first less least = record {
  full = true;
  x = pos 0;
  start = pos 10;
  target = pos 0;
  first = first;
  less = less;
  least = least;
  dwell = 0;
  back = 4;
  f = 120;
  g95 = true;
}

pub rising : bites (short 2 0 5) ≡ 2 ∷ 5 ∷ 3 ∷ []
unfolding next_bite biting bites
rising = refl

-- the retract is longer than the first depth: G88 returns to the start itself, and that is a record too
pub not_past : drilling (short 2 0 5)
    ≡ feed (pos 0) (pos 8) 120 true ∷ rapid (pos 0) (pos 10) ∷ rapid (pos 0) (pos 10)
    ∷ feed (pos 0) (pos 3) 120 true ∷ rapid (pos 0) (pos 10) ∷ rapid (pos 0) (pos 7)
    ∷ feed (pos 0) (pos 0) 120 true ∷ rapid (pos 0) (pos 10) ∷ []
unfolding next_bite biting bites clearing boring dwelling drilling
not_past = refl

-- a bite of 0 is asked only while something is left: D3 is the stroke, and D5 of 100 does no harm; one less, and it does
pub none_behind : wrong (short 10 100 0) ≡ false
unfolding next_bite biting bites has_zero wrong
none_behind = refl

pub none_left : wrong (short 9 100 0) ≡ true
unfolding next_bite biting bites has_zero wrong
none_left = refl

-- D3=7000 D5=50: the bites become 0 before the target; D5=101 is refused with one bite too
pub fades : wrong (bore false 7000 0 50 0) ≡ true
unfolding next_bite biting bites has_zero wrong
fades = refl

pub above : wrong (bore false 0 0 101 0) ≡ true
unfolding wrong
above = refl

pub taken : wrong (bore false 7000 50 20 3000) ≡ false
unfolding next_bite biting bites has_zero wrong
taken = refl

-- a stroke of 5 x 10^7 with bites of 1: counted by the law and not walked
pub long_row : length (biting 0 0 1 50_000_000 50_000_000) ≡ 50_000_000
unfolding next_bite count
long_row = repeats_count 0 0 1 50_000_000 50_000_000 (omega arith) (omega arith) (omega arith) refl
