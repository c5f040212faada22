-- `numbers::worth` meets its contract.
use mathlib.Core.Path.{◌≡◌}
use native.Mathlib.Omega.{arith}
use Rattle.numbers.proofs.worth.Statement.{statement}
use Rattle.numbers.proofs.worth.Tie as tie

returns : tie.Need-returns-in-0
returns c = rw c.in-0.is

returns_2 : tie.Need-returns-in-1
returns_2 c = rw c.in-1.is

returns_3 : tie.Need-returns-in-2
returns_3 c = rw c.in-2.is

returns_4 : tie.Need-returns-in_default
returns_4 c =
    let e : c.args.m ≡ 3 = omega arith in
    rw e

pub worth_spec : {M : Type 1} → statement M
worth_spec = tie.close (tie.spec returns returns_2 returns_3 returns_4)
