-- `arrows::arrow_to` meets its contract.
use borrow.Author.Rules.{rules, sfits_of}
use mathlib.Core.Path.{◌≡◌, ◌∙◌}
use lib.IntN.{pos, ◌-ℤ◌, ◌*ℤ◌}
use mir.Syntax.{w64}
use mir.Val.{to_z, of_z}
use mir.Facts.{to_z-of_z}
use Rattle.whole.proofs.Integers.{wide}
use Rattle.arrows.proofs.arrow_to.Statement.{statement}
use Rattle.arrows.proofs.arrow_to.Tie as tie

twice_beyond_requires : tie.Need-twice_beyond-requires
twice_beyond_requires c κs = search rules

beyond_requires : tie.Need-beyond-requires
beyond_requires c κs = search rules

right : (c : tie.After-twice_beyond) → to_z w64 (of_z w64 c.twice_beyond.result) ≡ pos 2 *ℤ (c.args.p.z -ℤ c.args.c.z)
right c = to_z-of_z {w = w64} (sfits_of {w = w64} c.twice_beyond.type_inv) ∙ (c.twice_beyond.ensures ∙ search wide)

up : (c : tie.After-beyond) → to_z w64 (of_z w64 c.beyond.result) ≡ c.args.p.x -ℤ c.args.c.x
up c = to_z-of_z {w = w64} (sfits_of {w = w64} c.beyond.type_inv) ∙ (c.beyond.ensures ∙ search wide)

returns : tie.Need-returns
returns c = λ i. record { right = right c.before.before.before i; up = up c i }

pub arrow_to_spec : {M : Type 1} → statement M
arrow_to_spec = tie.close (tie.spec twice_beyond_requires beyond_requires returns)
