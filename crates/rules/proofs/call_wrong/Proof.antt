-- `rules::call_wrong` meets its contract.
use mathlib.Core.Bool.{not, ◌&&◌}
use Rattle.rules.specs.Rules.{call_wrong}
use mathlib.Core.Path.{ap}
use mathlib.Core.Bool.{Bool}
use borrow.Author.Rules.{rules}
use Rattle.rules.proofs.call_wrong.Statement.{statement}
use Rattle.rules.proofs.call_wrong.Tie as tie

calls_or_jumps_requires : tie.Need-calls_or_jumps-requires
calls_or_jumps_requires c κs = search rules

returns : tie.Need-returns
unfolding call_wrong
returns c = ap (λ (t : Bool). not c.args.calls && t) c.calls_or_jumps.ensures

pub call_wrong_spec : {M : Type 1} → statement M
call_wrong_spec = tie.close (tie.spec calls_or_jumps_requires returns)
