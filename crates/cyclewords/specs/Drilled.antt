-- The drilling cycle that words stand for.
use Rattle.std.specs.Prelude.{cond, List, ℕ, ◌+◌, eqb}
use Rattle.drilling.specs.declared.Bore.{Bore}
use Rattle.bores.specs.declared.Cursor.{Cursor}
use Rattle.bores.specs.declared.Stage.{Stage}
use Rattle.bores.specs.declared.Stage.TheVariants.{Bite, Home, Back, Dwell, Out, Over}
use Rattle.cells.specs.Numbers.{at, flag_at, signed_at}

abbrev pub drilling_tag : ℕ
drilling_tag = 11

abbrev pub stage_of : ℕ → Stage
stage_of u = cond (eqb u 0) Bite (cond (eqb u 1) Home (cond (eqb u 2) Back (cond (eqb u 3) Dwell (cond (eqb u 4) Out Over))))

abbrev pub bore_at : List ℕ → ℕ → Bore
bore_at w k = record {
  full = flag_at w k;
  x = signed_at w (k + 1);
  start = signed_at w (k + 2);
  target = signed_at w (k + 3);
  first = at w (k + 4);
  less = at w (k + 5);
  least = at w (k + 6);
  dwell = at w (k + 7);
  back = at w (k + 8);
  f = at w (k + 9);
  g95 = flag_at w (k + 10);
}

unfoldable pub drilling_of : List ℕ → Cursor
drilling_of w = record { bore = bore_at w 2; stage = stage_of (at w 13); deep = at w 14; bite = at w 15; left = at w 16 }
