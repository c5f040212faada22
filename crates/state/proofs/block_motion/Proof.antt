-- `state::block_motion` meets its contract.
use mathlib.Core.Path.{ap, ◌∙◌}
use Rattle.codes.specs.declared.Code.{Code}
use Rattle.acts.specs.Acting.{motion_by}
use Rattle.state.specs.Modal.{block_motion}
use borrow.Author.Rules.{rules}
use Rattle.state.proofs.block_motion.Statement.{statement}
use Rattle.state.proofs.block_motion.Tie as tie

g_in_requires : tie.Need-g_in-requires
g_in_requires c κs = search rules

motion_by_requires : tie.Need-motion_by-requires
motion_by_requires c κs = search rules

returns : tie.Need-returns
unfolding block_motion
returns c = c.motion_by.ensures ∙ ap (λ (k : Code). motion_by k c.args.before) c.g_in.ensures

pub block_motion_spec : {M : Type 1} → statement M
block_motion_spec = tie.close (tie.spec g_in_requires motion_by_requires returns)
