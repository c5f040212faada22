-- The settings as a row of numbers: main, lowest subroutine, retract, start X, start Z, X lowest, X highest, Z lowest, Z highest, empty cuts, points (0 or 1). Settings that are not as many, or of which
-- one is out of its range, are alarm 1, whatever the rest is. Which ranges there are is said once, in settings/specs/Wrong.antt; here is only what the settings cannot hold: a number below 0 for main, lowest
-- subroutine, retract or the empty cuts, and one for the points that is neither 0 nor 1.
use Rattle.std.specs.Prelude.{Bool, not, ◌||◌, List, ℕ, eqb, ℤ, pos, nat_abs, length, get_or}
use Rattle.std.specs.Int.Signed.{lt_z}
use Rattle.settings.specs.declared.Settings.{Settings}

-- the places
abbrev pub main_at : ℕ
main_at = 0

abbrev pub lowest_subroutine_at : ℕ
lowest_subroutine_at = 1

abbrev pub retract_at : ℕ
retract_at = 2

abbrev pub start_x_at : ℕ
start_x_at = 3

abbrev pub start_z_at : ℕ
start_z_at = 4

abbrev pub x_lowest_at : ℕ
x_lowest_at = 5

abbrev pub x_highest_at : ℕ
x_highest_at = 6

abbrev pub z_lowest_at : ℕ
z_lowest_at = 7

abbrev pub z_highest_at : ℕ
z_highest_at = 8

abbrev pub empty_cuts_at : ℕ
empty_cuts_at = 9

abbrev pub points_at : ℕ
points_at = 10

abbrev pub settings_count : ℕ
settings_count = 11

-- the number at a place
abbrev pub at : List ℤ → ℕ → ℤ
at numbers k = get_or numbers k (pos 0)

abbrev pub is_below : List ℤ → ℕ → Bool
is_below numbers k = lt_z (at numbers k) (pos 0)

-- the number of the points is neither 0 nor 1
abbrev pub points_unfit : List ℤ → Bool
points_unfit numbers = is_below numbers points_at || lt_z (pos 1) (at numbers points_at)

unfoldable pub unfit : List ℤ → Bool
unfit numbers =
    not (eqb (length numbers) settings_count)
    || ((((is_below numbers main_at || is_below numbers lowest_subroutine_at) || is_below numbers retract_at) || is_below numbers empty_cuts_at) || points_unfit numbers)

abbrev pub settings_of : List ℤ → Settings
settings_of numbers = record {
  main = nat_abs (at numbers main_at);
  lowest_subroutine = nat_abs (at numbers lowest_subroutine_at);
  retract = nat_abs (at numbers retract_at);
  x = at numbers start_x_at;
  z = at numbers start_z_at;
  limits = record {
    x = record { lowest = at numbers x_lowest_at; highest = at numbers x_highest_at };
    z = record { lowest = at numbers z_lowest_at; highest = at numbers z_highest_at };
  };
  empty_cuts = nat_abs (at numbers empty_cuts_at);
  points = lt_z (pos 0) (at numbers points_at);
}
