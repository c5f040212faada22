-- The turning cycle that words stand for.
use Rattle.std.specs.Prelude.{List, ℕ, ◌+◌}
use Rattle.turning.specs.declared.Pass.{Pass}
use Rattle.passes.specs.declared.Cursor.{Cursor}
use Rattle.cells.specs.Numbers.{at, flag_at, signed_at, side_of, pieces_at}
use Rattle.cyclewords.specs.Passing.{stage_of}

abbrev pub turning_tag : ℕ
turning_tag = 8

abbrev pub pass_at : List ℕ → ℕ → Pass
pass_at w k = record {
  facing = flag_at w k;
  f = at w (k + 1);
  g95 = flag_at w (k + 2);
  from = signed_at w (k + 3);
  home = signed_at w (k + 4);
  end = signed_at w (k + 5);
}

unfoldable pub turning_of : List ℕ → Cursor
turning_of w = record { pass = pass_at w 2; side = side_of (at w 8); line = signed_at w 9; depths = pieces_at w 10; stage = stage_of (at w 13) }
