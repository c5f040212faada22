-- `lawful::right::in_turn` meets its contract.
use mathlib.Core.Path.{sym}
use Rattle.moves.specs.Kinds.{in_turn}
use Rattle.lawful.proofs.right.in_turn.Statement.{statement}
use Rattle.lawful.proofs.right.in_turn.Tie as tie

returns : tie.Need-returns-then-due
returns c = let s = c in λ i. in_turn (sym c.if-due.true i) s.args.kind

returns_2 : tie.Need-returns
returns_2 c = let s = c in λ i. in_turn (sym c.if-due.false i) s.args.kind

pub in_turn_spec : {M : Type 1} → statement M
in_turn_spec = tie.close (tie.spec returns returns_2)
