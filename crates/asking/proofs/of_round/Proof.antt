-- `asking::of_round` meets its contract.
use mathlib.Core.Bool.{true, false}
use Rattle.cycles.specs.Feeds.{least_of_feed}
use Rattle.asking.proofs.of_round.Statement.{statement}
use Rattle.asking.proofs.of_round.Tie as tie

is_uneven_requires : tie.Need-is_uneven-wrong-requires
is_uneven_requires c κs = c.requires.0.reach

is_straying_requires : tie.Need-is_straying-outside-requires
is_straying_requires c κs =
    let s = c in
    (s.requires.0.reach, s.requires.0.limits s.args.l s.requires.1 s.requires.2)

returns : tie.Need-returns
returns c = λ i. record { nowhere = false; waits = true; least = least_of_feed; wrong = c.is_uneven-wrong.ensures i; outside = c.is_straying-outside.ensures i; count = 2 }

pub of_round_spec : {M : Type 1} → statement M
of_round_spec = tie.close (tie.spec is_uneven_requires is_straying_requires returns)
