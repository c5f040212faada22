-- `bores::rapid_at` meets its contract.
use mathlib.Core.Path.{◌∙◌}
use mir.Syntax.{w32}
use mir.Val.{SFits}
use mir.Facts.{to_z-of_z}
use Rattle.moves.specs.Kinds.{rapid}
use borrow.Author.Rules.{rules, sfits_of}
use Rattle.bores.proofs.rapid_at.Statement.{statement}
use Rattle.bores.proofs.rapid_at.Tie as tie

-- asked at the function's entry, where `search` still reaches it
x_held : (s : tie.Start) → SFits w32 s.args.b.x
x_held s = search rules

deep_at_requires : tie.Need-deep_at-to-requires
deep_at_requires c κs = search rules

rapid_requires : tie.Need-rapid-requires
rapid_requires c κs = search rules

returns : tie.Need-returns
returns c =
    let d = c in
    let s = d in
    let z = to_z-of_z (sfits_of {w = w32} d.deep_at-to.type_inv) ∙ d.deep_at-to.ensures in
    c.rapid.ensures ∙ (λ i. rapid (to_z-of_z (x_held s.before.before.before) i) (z i))

pub rapid_at_spec : {M : Type 1} → statement M
rapid_at_spec = tie.close (tie.spec deep_at_requires rapid_requires returns)
