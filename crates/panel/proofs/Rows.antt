-- Laws of the row of settings: when it is fit.
-- Assumes nothing.
use mathlib.Core.Path.{◌≡◌, refl, sym}
use mathlib.Core.Bool.{Bool, true, false, not, ◌||◌}
use mathlib.Core.List.{List}
use lib.Dec.{eqb}
use lib.IntN.{ℤ}
use lib.ListN.{length}
use borrow.Author.Tests.{eqb-true, eq-eqb, ne_eqb}
use Rattle.panel.specs.Row.{main_at, lowest_subroutine_at, retract_at, empty_cuts_at, settings_count, is_below, points_unfit, unfit}

first_false : (a b : Bool) → (a || b) ≡ false → a ≡ false
first_false true b e = e
first_false false b e = refl

not_not : (a : Bool) → not a ≡ false → a ≡ true
not_not true e = refl
not_not false e = sym e

pub all_there : (numbers : List ℤ) → unfit numbers ≡ false → length numbers ≡ settings_count
unfolding unfit
all_there numbers e = eqb-true (length numbers) settings_count (not_not (eqb (length numbers) settings_count) (first_false (not (eqb (length numbers) settings_count)) _ e))

pub other_length : (numbers : List ℤ) → (length numbers ≡ settings_count → ⊥) → true ≡ unfit numbers
unfolding unfit
other_length numbers h = rw (ne_eqb (length numbers) settings_count h) refl

pub are_there : (numbers : List ℤ) → length numbers ≡ settings_count → {x y z e p : Bool} → x ≡ is_below numbers main_at → y ≡ is_below numbers lowest_subroutine_at → z ≡ is_below numbers retract_at → e ≡ is_below numbers empty_cuts_at → p ≡ points_unfit numbers
    → ((((x || y) || z) || e) || p) ≡ unfit numbers
unfolding unfit
are_there numbers h x y z e p = rw (eq-eqb (length numbers) settings_count h) (λ i. (((x i || y i) || z i) || e i) || p i)
