-- `drillable::has_zero` meets its contract.
use mathlib.Core.Path.{sym, ap, ◌∙◌}
use Prim.Native.Nat.{ℕ}
use native.Mathlib.Omega.{arith}
use Rattle.bites.specs.Bites.{biting, has_zero}
use Rattle.bites.proofs.Rows.{zero_found}
use Rattle.drillable.proofs.Fit.{none_left}
use borrow.Author.Rules.{rules}
use Rattle.drillable.proofs.has_zero.Statement.{statement}
use Rattle.drillable.proofs.has_zero.Tie as tie

returns : tie.Need-returns-then-left-eq0
returns c =
    let a = c.args in
    sym (ap (λ (n : ℕ). has_zero (biting a.less a.least a.bite n n)) c.if-left-eq0.true ∙ none_left a.less a.least a.bite)

returns_2 : tie.Need-returns-then-bite-eq0
returns_2 c =
    let a = c.args in
    sym
    (ap (λ (n : ℕ). has_zero (biting a.less a.least n a.left a.left)) c.if-bite-eq0.true
    ∙ zero_found a.less a.least a.left a.left (omega (arith, c.if-left-eq0.false)) (omega (arith, c.if-left-eq0.false)))

has_zero_requires : tie.Need-has_zero-requires
has_zero_requires c κs = search rules

returns_3 : tie.Need-returns
returns_3 c = search rules

pub has_zero_spec : {M : Type 1} → statement M
has_zero_spec = tie.close (tie.spec returns returns_2 has_zero_requires returns_3)
