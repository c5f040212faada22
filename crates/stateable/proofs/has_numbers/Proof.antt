-- `stateable::has_numbers` meets its contract.
use native.Mathlib.Omega.{arith}
use Rattle.telling.proofs.Tells.{tells_no}
use Rattle.stateable.proofs.Fit.{tells_numbers}
use Rattle.stateable.proofs.has_numbers.Statement.{statement}
use Rattle.stateable.proofs.has_numbers.Tie as tie

returns : tie.Need-returns-then-s-gt-SHIFTS
returns c = tells_no (λ n. omega (arith, c.if-s-gt-SHIFTS.true, n.shift_group3))

returns_2 : tie.Need-returns-then-s-gt-SHIFTS-2
returns_2 c = tells_no (λ n. omega (arith, c.if-s-gt-SHIFTS-2.true, n.shift_group5))

returns_3 : tie.Need-returns
returns_3 c =
    let five = c in
    let three = five in
    tells_numbers three.args.s (omega (arith, three.if-s-gt-SHIFTS.false)) (omega (arith, five.if-s-gt-SHIFTS-2.false))

pub has_numbers_spec : {M : Type 1} → statement M
has_numbers_spec = tie.close (tie.spec returns returns_2 returns_3)
