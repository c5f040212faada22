-- `groovable::stays_within` meets its contract.
use Prim.Native.Nat.{◌-◌}
use native.Mathlib.Omega.{arith}
use borrow.Author.Rules.{rules}
use Rattle.telling.proofs.Tells.{tells_no, tells_at_most}
use Rattle.groovable.proofs.stays_within.Statement.{statement}
use Rattle.groovable.proofs.stays_within.Tie as tie

returns : tie.Need-returns-then-length-cut
returns c = tells_no (λ h. omega (arith, h, c.if-length-cut.true, c.total-cut.ensures, c.length_of-length.ensures))

returns_2 : tie.Need-returns
returns_2 c =
    let cut = c.total-cut in
    let long = c.length_of-length in
    tells_at_most c.args.deep (long.result - cut.result)
    (λ e. omega (arith, e, c.if-length-cut.false, cut.ensures, long.ensures))
    (λ h. omega (arith, h, c.if-length-cut.false, cut.ensures, long.ensures))

pub stays_within_spec : {M : Type 1} → statement M
stays_within_spec = tie.close (tie.spec (λ c κs. search rules) (λ c. search rules) (λ c κs. search rules) returns returns_2)
