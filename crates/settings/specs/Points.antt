-- 02: "a setting turns missing points into an alarm for X Z U W". What stays where that setting alone is another.
use Rattle.std.specs.Prelude.{Bool}
use Rattle.settings.specs.declared.Settings.{Settings}

-- the settings with points asked for or not, and all else as it is
abbrev pub with_points : Bool → Settings → Settings
with_points points set = record {
  main = set.main;
  lowest_subroutine = set.lowest_subroutine;
  retract = set.retract;
  x = set.x;
  z = set.z;
  limits = set.limits;
  empty_cuts = set.empty_cuts;
  points = points;
}
