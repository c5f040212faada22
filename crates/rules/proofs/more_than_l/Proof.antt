-- `rules::more_than_l` meets its contract.
use mathlib.Core.Bool.{not}
use mathlib.Core.Path.{ap}
use Rattle.block.specs.Slots.{x_slot, l_slot, numbers_from, any_in}
use Rattle.rules.specs.Rules.{more_than_l, calls_or_jumps}
use Rattle.rules.proofs.Ruling.{first_fails, second_tells}
use borrow.Author.Rules.{rules}
use Rattle.rules.proofs.more_than_l.Statement.{statement}
use Rattle.rules.proofs.more_than_l.Tie as tie

calls_or_jumps_requires : tie.Need-calls_or_jumps-requires
calls_or_jumps_requires c κs = search rules

-- the slots of the other addresses lie before L's
returns : tie.Need-returns-then-not-calls_or_jumps
unfolding more_than_l
returns c = let b = c.args.b in first_fails (calls_or_jumps b) c.calls_or_jumps.result (any_in b (numbers_from x_slot l_slot)) c.calls_or_jumps.ensures (ap not c.if-not-calls_or_jumps.true)

any_requires : tie.Need-any-requires
any_requires c κs = search rules

returns_2 : tie.Need-returns
unfolding more_than_l
returns_2 c =
    let k = c in
    let b = k.args.b in
    second_tells (calls_or_jumps b) k.calls_or_jumps.result (any_in b (numbers_from x_slot l_slot)) c.any.result k.calls_or_jumps.ensures (ap not c.if-not-calls_or_jumps.false) c.any.ensures

pub more_than_l_spec : {M : Type 1} → statement M
more_than_l_spec = tie.close (tie.spec calls_or_jumps_requires returns any_requires returns_2)
