-- The threading cycle that words stand for.
use Rattle.std.specs.Prelude.{cond, List, ℕ, ◌+◌, eqb}
use Rattle.cuts.specs.declared.Falling.{Falling}
use Rattle.cuts.specs.declared.Cuts.{Cuts}
use Rattle.cuts.specs.declared.Cuts.TheVariants.{Even, ByDepth, ByNumber}
use Rattle.threading.specs.declared.Pass.{Pass}
use Rattle.threads.specs.declared.Cursor.{Cursor}
use Rattle.cells.specs.Numbers.{at, flag_at, signed_at, wide_at, side_of, pieces_at}
use Rattle.cyclewords.specs.Passing.{stage_of}

abbrev pub threading_tag : ℕ
threading_tag = 9

-- the cuts that are left: a tag, and what the longest of the three takes
abbrev pub cuts_words : ℕ
cuts_words = 8

abbrev pub falling_at : List ℕ → ℕ → Falling
falling_at w k = record { d3 = at w k; d6 = at w (k + 1); square = wide_at w (k + 2); sum = wide_at w (k + 4); left = at w (k + 6) }

abbrev pub cuts_at : List ℕ → ℕ → Cuts
cuts_at w k = cond (eqb (at w k) 0) (Even (pieces_at w (k + 1))) (cond (eqb (at w k) 1) (ByDepth (falling_at w (k + 1))) (ByNumber (falling_at w (k + 1))))

abbrev pub pass_at : List ℕ → ℕ → Pass
pass_at w k = record { facing = flag_at w k; pitch = at w (k + 1); from = signed_at w (k + 2); home = signed_at w (k + 3); end = signed_at w (k + 4) }

unfoldable pub threading_of : List ℕ → Cursor
threading_of w = record {
  pass = pass_at w 2;
  side = side_of (at w 7);
  line = signed_at w 8;
  depth = at w 9;
  cuts = cuts_at w 10;
  empty = at w 18;
  stage = stage_of (at w 19);
}
