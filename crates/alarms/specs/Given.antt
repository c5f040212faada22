-- THE ALARMS THAT ARE GIVEN. 0 is none of them: it says that a list is complete. 8 is none: 02, "its number is not used again". A new alarm is one line here. 21 is given where the settings ask for points, and
-- nowhere else.
use Rattle.std.specs.Prelude.{◌≡◌, Bool, true, cond, List, [], ◌∷◌, ◌++◌, ℕ}
use Rattle.whole.specs.Among.{among}
use Rattle.alarms.specs.Numbers.{bad_settings, tape_too_long, buffer_too_short, no_program, bad_byte_or_number, bad_line_start, line_too_long, word_rules, program_missing, block_missing, too_deep, too_many_begun, wrong_end, no_motion, not_rapid, bad_feed, outside_limits, bad_lengths, no_room, missing_point, places_too_short}

-- those that are given whatever the settings are
abbrev pub always : List ℕ
always =
    bad_settings
    ∷ tape_too_long
    ∷ buffer_too_short
    ∷ no_program
    ∷ bad_byte_or_number
    ∷ bad_line_start
    ∷ line_too_long
    ∷ word_rules
    ∷ program_missing
    ∷ block_missing
    ∷ too_deep
    ∷ too_many_begun
    ∷ wrong_end
    ∷ no_motion
    ∷ not_rapid
    ∷ bad_feed
    ∷ outside_limits
    ∷ bad_lengths
    ∷ no_room
    ∷ places_too_short
    ∷ []

-- all, where points are asked or not
abbrev pub given : Bool → List ℕ
given points = always ++ cond points (missing_point ∷ []) []

abbrev pub IsAlarm : Bool → ℕ → Type 0
IsAlarm points n = among n (given points) ≡ true
