-- `bores::rapid_home` meets its contract.
use mathlib.Core.Path.{◌∙◌}
use mir.Syntax.{w32}
use mir.Val.{SFits}
use mir.Facts.{to_z-of_z}
use Rattle.moves.specs.Kinds.{rapid}
use borrow.Author.Rules.{rules}
use Rattle.bores.proofs.rapid_home.Statement.{statement}
use Rattle.bores.proofs.rapid_home.Tie as tie

-- asked at the function's entry, where `search` still reaches it
x_held : (s : tie.Start) → SFits w32 s.args.b.x
x_held s = search rules

start_held : (s : tie.Start) → SFits w32 s.args.b.start
start_held s = search rules

rapid_requires : tie.Need-rapid-requires
rapid_requires c κs = search rules

returns : tie.Need-returns
returns c =
    let s = c in
    c.rapid.ensures ∙ (λ i. rapid (to_z-of_z (x_held s.before.before.before) i) (to_z-of_z (start_held s.before.before.before) i))

pub rapid_home_spec : {M : Type 1} → statement M
rapid_home_spec = tie.close (tie.spec rapid_requires returns)
