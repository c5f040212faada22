-- `bores::dwell_of` meets its contract.
use mathlib.Core.Path.{◌∙◌}
use mir.Syntax.{w32}
use mir.Val.{SFits}
use mir.Facts.{to_z-of_z}
use Rattle.moves.specs.Kinds.{dwell}
use borrow.Author.Rules.{rules}
use Rattle.bores.proofs.dwell_of.Statement.{statement}
use Rattle.bores.proofs.dwell_of.Tie as tie

-- asked at the function's entry, where `search` still reaches it
x_held : (s : tie.Start) → SFits w32 s.args.b.x
x_held s = search rules

target_held : (s : tie.Start) → SFits w32 s.args.b.target
target_held s = search rules

dwell_requires : tie.Need-dwell-requires
dwell_requires c κs = search rules

returns : tie.Need-returns
returns c =
    let s = c in
    c.dwell.ensures ∙ (λ i. dwell (to_z-of_z (x_held s.before.before.before) i) (to_z-of_z (target_held s.before.before.before) i) s.args.b.dwell)

pub dwell_of_spec : {M : Type 1} → statement M
dwell_of_spec = tie.close (tie.spec dwell_requires returns)
