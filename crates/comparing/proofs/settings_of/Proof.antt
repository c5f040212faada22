-- `comparing::settings_of` meets its contract: each number is what is read back from its bits.
use mathlib.Core.List.{List, ◌∷◌, []}
use lib.IntN.{ℤ}
use mir.Syntax.{w32}
use mir.Facts.{to_z-of_z}
use borrow.Author.Rules.{rules, sfits_of}
use Rattle.panel.specs.Row.{main_at, lowest_subroutine_at, retract_at, start_x_at, start_z_at, x_lowest_at, x_highest_at, z_lowest_at, z_highest_at, empty_cuts_at, points_at}
use Rattle.comparing.specs.Door.{setting_at}
use Rattle.comparing.proofs.settings_of.Statement.{statement}
use Rattle.comparing.proofs.settings_of.Tie as tie

returns : tie.Need-returns
returns c =
    let g : List ℤ = c.args.given.now in
    λ i.
    to_z-of_z {z = setting_at g main_at} (sfits_of {w = w32} c.result-1.given) i
    ∷ to_z-of_z {z = setting_at g lowest_subroutine_at} (sfits_of {w = w32} c.result-2-1.given) i
    ∷ to_z-of_z {z = setting_at g retract_at} (sfits_of {w = w32} c.result-3-1.given) i
    ∷ to_z-of_z {z = setting_at g start_x_at} (sfits_of {w = w32} c.result-4-1.given) i
    ∷ to_z-of_z {z = setting_at g start_z_at} (sfits_of {w = w32} c.result-5-1.given) i
    ∷ to_z-of_z {z = setting_at g x_lowest_at} (sfits_of {w = w32} c.result-6-1.given) i
    ∷ to_z-of_z {z = setting_at g x_highest_at} (sfits_of {w = w32} c.result-7-1.given) i
    ∷ to_z-of_z {z = setting_at g z_lowest_at} (sfits_of {w = w32} c.result-8-1.given) i
    ∷ to_z-of_z {z = setting_at g z_highest_at} (sfits_of {w = w32} c.result-9-1.given) i
    ∷ to_z-of_z {z = setting_at g empty_cuts_at} (sfits_of {w = w32} c.result-10-1.given) i
    ∷ to_z-of_z {z = setting_at g points_at} (sfits_of {w = w32} c.result-11-1.given) i
    ∷ []

pub settings_of_spec : {M : Type 1} → statement M
settings_of_spec =
    tie.close
    (tie.spec
    (λ c. search rules)
    (λ c. search rules)
    (λ c. search rules)
    (λ c. search rules)
    (λ c. search rules)
    (λ c. search rules)
    (λ c. search rules)
    (λ c. search rules)
    (λ c. search rules)
    (λ c. search rules)
    (λ c. search rules)
    returns)
