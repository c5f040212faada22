-- `addresses::capital_of` meets its contract.
use native.Mathlib.Omega.{arith}
use borrow.Author.Rules.{rules}
use borrow.Author.Tests.{le-leb, lt-leb}
use Rattle.addresses.specs.Words.{capital}
use Rattle.addresses.proofs.capital_of.Statement.{statement}
use Rattle.addresses.proofs.capital_of.Tie as tie

sub_result : tie.Need-overflow_sub-result
sub_result c = search rules

returns : tie.Need-returns-in-97-to-122
unfolding capital
returns c =
    let b = c.args.b in
    rw (le-leb 97 b c.in-97-to-122.if-b-lt97-own.false, le-leb b 122 (omega arith))

returns_2 : tie.Need-returns-in_default
unfolding capital
returns_2 c = rw (lt-leb 97 c.args.b c.in_default.if-b-lt97-own.true)

returns_3 : tie.Need-returns-in_default-2
unfolding capital
returns_3 c =
    let b = c.args.b in
    rw (le-leb 97 b c.in_default.if-b-lt97-own.false, lt-leb b 122 c.in_default.if-b-lt123-own.false)

pub capital_of_spec : {M : Type 1} → statement M
capital_of_spec = tie.close (tie.spec sub_result returns returns_2 returns_3)
