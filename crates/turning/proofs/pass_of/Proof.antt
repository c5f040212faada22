-- `turning::pass_of` meets its contract.
use mathlib.Core.Path.{◌∙◌}
use mir.Syntax.{w32}
use mir.Val.{SFits}
use mir.Facts.{to_z-of_z}
use borrow.Author.Rules.{rules, sfits_of}
use Rattle.turning.proofs.Asked.{long_enough}
use Rattle.turning.proofs.pass_of.Statement.{statement}
use Rattle.turning.proofs.pass_of.Tie as tie

-- asked at the function's entry, where `search` still reaches them
from_held : (s : tie.Start) → SFits w32 s.args.c.infeed.start
from_held s = search rules

home_held : (s : tie.Start) → SFits w32 s.args.c.path.start
home_held s = search rules

line_of_requires : tie.Need-line_of-end-requires
line_of_requires c κs = let s = c in (long_enough s.args.c s.requires).1

returns : tie.Need-returns
returns c =
    let l = c in
    let s = l in
    let k = s.args.c in
    let end = to_z-of_z (sfits_of {w = w32} l.line_of-end.type_inv) ∙ l.line_of-end.ensures in
    λ i. record { facing = k.facing; f = k.f; g95 = k.g95; from = to_z-of_z (from_held s.before.before.before.before.before) i; home = to_z-of_z (home_held s.before.before.before.before.before) i; end = end i }

pub pass_of_spec : {M : Type 1} → statement M
pass_of_spec = tie.close (tie.spec line_of_requires returns)
