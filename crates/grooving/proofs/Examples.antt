-- 01's own examples of G86, computed from the definitions; and a groove that the tool fills, or does not go into.
-- Assumes nothing.
use mathlib.Core.Path.{◌≡◌, refl}
use mathlib.Core.Bool.{true, false}
use mathlib.Core.List.{List, [], ◌∷◌, ◌++◌}
use Prim.Native.Nat.{ℕ}
use lib.IntN.{ℤ, pos, negsuc}
use lib.ListN.{length}
use Rattle.division.specs.Division.{count, pieces}
use Rattle.moves.specs.declared.Record.{Record}
use Rattle.moves.specs.Kinds.{rapid, feed, dwell}
use Rattle.axes.specs.Goes.{rapid_to, feed_to, dwell_at}
use Rattle.grooving.specs.declared.Groove.{Groove}
use Rattle.grooving.specs.Grooving.{wrong, step_count, steps, last_width, cut_count, cuts, cutting, dwelling, plunge, plunges, grooving, plunge_count, record_count}

-- "P6: 001's second G86 example, X42 Z-24 to X26 Z-32, D3 1500, D5 3000: plunges at Z -24, -26.5, -29; depth four of 2,667 and two of 2,666 (diameter); 39 records."
abbrev pub p6 : Groove
p6 = record {
  facing = false;
  depth = record { start = pos 42000; target = pos 26000 };
  width = record { start = negsuc 23999; target = negsuc 31999 };
  tool = 3000;
  overlap = 100;
  piece = 3000;
  back = 1000;
  dwell = 0;
  f = 100;
  g95 = true;
}

pub p6_taken : wrong p6 ≡ false
unfolding wrong
p6_taken = refl

pub p6_steps : steps p6 ≡ 2500 ∷ 2500 ∷ []
unfolding count pieces step_count steps
p6_steps = refl

pub p6_last : last_width p6 ≡ negsuc 28999
p6_last = refl

pub p6_cuts : cuts p6 ≡ 2667 ∷ 2667 ∷ 2667 ∷ 2667 ∷ 2666 ∷ 2666 ∷ []
unfolding count pieces cut_count
p6_cuts = refl

-- a plunge at a Z
abbrev pub p6_plunge : ℤ → List Record
p6_plunge z =
    feed (pos 39333) z 100 true
    ∷ rapid (pos 40333) z
    ∷ feed (pos 36666) z 100 true
    ∷ rapid (pos 37666) z
    ∷ feed (pos 33999) z 100 true
    ∷ rapid (pos 34999) z
    ∷ feed (pos 31332) z 100 true
    ∷ rapid (pos 32332) z
    ∷ feed (pos 28666) z 100 true
    ∷ rapid (pos 29666) z
    ∷ feed (pos 26000) z 100 true
    ∷ rapid (pos 42000) z
    ∷ []

pub p6_records : grooving p6 ≡
    p6_plunge (negsuc 23999)
    ++ (rapid (pos 42000) (negsuc 26499)
    ∷ (p6_plunge (negsuc 26499)
    ++ (rapid (pos 42000) (negsuc 28999)
    ∷ (p6_plunge (negsuc 28999)
    ++ (rapid (pos 42000) (negsuc 23999) ∷ [])))))
unfolding count pieces rapid_to feed_to dwell_at step_count steps cut_count cutting dwelling plunge plunges grooving
p6_records = refl

pub p6_length : length (grooving p6) ≡ 39
unfolding count pieces rapid_to feed_to dwell_at step_count steps cut_count cutting dwelling plunge plunges grooving
p6_length = refl

pub p6_count : record_count p6 ≡ 39
unfolding count step_count cut_count plunge_count record_count
p6_count = refl

-- "P7: facing, X30 Z1 to Z-6 X16, D3 2000, D5 3000: X 30, 26, 22; Z -0.75, -2.5, -4.25, -6."
abbrev pub p7 : Groove
p7 = record {
  facing = true;
  depth = record { start = pos 1000; target = negsuc 5999 };
  width = record { start = pos 30000; target = pos 16000 };
  tool = 6000;
  overlap = 200;
  piece = 2000;
  back = 500;
  dwell = 0;
  f = 100;
  g95 = true;
}

pub p7_taken : wrong p7 ≡ false
unfolding wrong
p7_taken = refl

pub p7_steps : steps p7 ≡ 4000 ∷ 4000 ∷ []
unfolding count pieces step_count steps
p7_steps = refl

pub p7_cuts : cuts p7 ≡ 1750 ∷ 1750 ∷ 1750 ∷ 1750 ∷ []
unfolding count pieces cut_count
p7_cuts = refl

-- a plunge at an X
abbrev pub p7_plunge : ℤ → List Record
p7_plunge x =
    feed x (negsuc 749) 100 true
    ∷ rapid x (negsuc 249)
    ∷ feed x (negsuc 2499) 100 true
    ∷ rapid x (negsuc 1999)
    ∷ feed x (negsuc 4249) 100 true
    ∷ rapid x (negsuc 3749)
    ∷ feed x (negsuc 5999) 100 true
    ∷ rapid x (pos 1000)
    ∷ []

pub p7_records : grooving p7 ≡
    p7_plunge (pos 30000)
    ++ (rapid (pos 26000) (pos 1000)
    ∷ (p7_plunge (pos 26000)
    ++ (rapid (pos 22000) (pos 1000)
    ∷ (p7_plunge (pos 22000)
    ++ (rapid (pos 30000) (pos 1000) ∷ [])))))
unfolding count pieces rapid_to feed_to dwell_at step_count steps cut_count cutting dwelling plunge plunges grooving
p7_records = refl

pub p7_count : record_count p7 ≡ 27
unfolding count step_count cut_count plunge_count record_count
p7_count = refl

-- "w below D5: alarm. w = D5: one plunge. Else D5 must exceed 100": a groove as wide as that of P6, with other tools
abbrev pub groove_with : ℕ → Groove
groove_with tool = record {
  facing = false;
  depth = record { start = pos 42000; target = pos 38000 };
  width = record { start = negsuc 23999; target = negsuc 31999 };
  tool = tool;
  overlap = 100;
  piece = 2000;
  back = 3000;
  dwell = 5;
  f = 100;
  g95 = true;
}

pub too_wide : wrong (groove_with 8001) ≡ true
unfolding wrong
too_wide = refl

pub too_thin : wrong (groove_with 100) ≡ true
unfolding wrong
too_thin = refl

pub thin_taken : wrong (groove_with 101) ≡ false
unfolding wrong
thin_taken = refl

pub filled_taken : wrong (groove_with 8000) ≡ false
unfolding wrong
filled_taken = refl

-- one plunge, with a dwell, and the rapid between its cuts "not past the start"
pub filled_records : grooving (groove_with 8000) ≡
    feed (pos 40000) (negsuc 23999) 100 true
    ∷ rapid (pos 42000) (negsuc 23999)
    ∷ feed (pos 38000) (negsuc 23999) 100 true
    ∷ dwell (pos 38000) (negsuc 23999) 5
    ∷ rapid (pos 42000) (negsuc 23999)
    ∷ []
unfolding count pieces rapid_to feed_to dwell_at step_count steps cut_count cutting dwelling plunge plunges grooving
filled_records = refl

pub filled_count : record_count (groove_with 8000) ≡ 5
unfolding count step_count cut_count plunge_count record_count
filled_count = refl
