-- The grooving cycle that words stand for.
use Rattle.std.specs.Prelude.{cond, List, ℕ, ◌+◌, eqb}
use Rattle.grooving.specs.declared.Way.{Way}
use Rattle.grooving.specs.declared.Groove.{Groove}
use Rattle.plunges.specs.declared.Cursor.{Cursor}
use Rattle.plunges.specs.declared.Stage.{Stage}
use Rattle.plunges.specs.declared.Stage.TheVariants.{Cut, Back, Dwell, Out, Across, Over}
use Rattle.cells.specs.Numbers.{at, flag_at, signed_at, pieces_at}

abbrev pub grooving_tag : ℕ
grooving_tag = 10

abbrev pub stage_of : ℕ → Stage
stage_of u = cond (eqb u 0) Cut (cond (eqb u 1) Back (cond (eqb u 2) Dwell (cond (eqb u 3) Out (cond (eqb u 4) Across Over))))

abbrev pub way_at : List ℕ → ℕ → Way
way_at w k = record { start = signed_at w k; target = signed_at w (k + 1) }

abbrev pub groove_at : List ℕ → ℕ → Groove
groove_at w k = record {
  facing = flag_at w k;
  depth = way_at w (k + 1);
  width = way_at w (k + 3);
  tool = at w (k + 5);
  overlap = at w (k + 6);
  piece = at w (k + 7);
  back = at w (k + 8);
  dwell = at w (k + 9);
  f = at w (k + 10);
  g95 = flag_at w (k + 11);
}

unfoldable pub grooving_of : List ℕ → Cursor
grooving_of w = record {
  groove = groove_at w 2;
  stage = stage_of (at w 14);
  width = signed_at w 15;
  deep = at w 16;
  cuts = pieces_at w 17;
  plunge = pieces_at w 20;
  steps = pieces_at w 23;
  several = flag_at w 26;
}
