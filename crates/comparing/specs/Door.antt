-- What a case hands to the board's door, and what the door's number tells.
use Rattle.std.specs.Prelude.{cond, List, ◌∷◌, [], ℕ, ◌+◌, ◌/◌, ◌%◌, eqb, ℤ}
use Rattle.settings.specs.Wrong.{table_size}
use Rattle.panel.specs.Row.{at, main_at, lowest_subroutine_at, retract_at, start_x_at, start_z_at, x_lowest_at, x_highest_at, z_lowest_at, z_highest_at, empty_cuts_at, points_at}
use Rattle.listing.specs.of_answers.declared.Answer.{Answer}
use Rattle.listing.specs.of_answers.declared.Answer.TheVariants.{Complete, Alarm}

-- a case has its settings behind its table, each at its place
abbrev pub setting_at : List ℤ → ℕ → ℤ
setting_at given k = at given (table_size + k)

abbrev pub settings_in : List ℤ → List ℤ
settings_in given =
    setting_at given main_at
    ∷ setting_at given lowest_subroutine_at
    ∷ setting_at given retract_at
    ∷ setting_at given start_x_at
    ∷ setting_at given start_z_at
    ∷ setting_at given x_lowest_at
    ∷ setting_at given x_highest_at
    ∷ setting_at given z_lowest_at
    ∷ setting_at given z_highest_at
    ∷ setting_at given empty_cuts_at
    ∷ setting_at given points_at
    ∷ []

-- "bits 0-15 the records written, bits 16-31 the place on the tape, bits 32-39 the alarm, 0 where the list is complete"
abbrev pub count_told : ℕ → ℕ
count_told n = n % 65_536

abbrev pub place_told : ℕ → ℕ
place_told n = n / 65_536 % 65_536

abbrev pub alarm_told : ℕ → ℕ
alarm_told n = n / 65_536 / 65_536 % 256

abbrev pub told_by : ℕ → ℕ → ℕ → Answer
told_by alarm place count = cond (eqb alarm 0) (Complete count) (Alarm alarm place count)

abbrev pub answer_told : ℕ → Answer
answer_told n = told_by (alarm_told n) (place_told n) (count_told n)
