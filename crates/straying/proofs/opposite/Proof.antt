-- `straying::opposite` meets its contract.
use mathlib.Core.Path.{sym, ◌∙◌, subst}
use Prim.Native.Nat.{◌≤◌}
use lib.IntN.{ℤ, pos, neg_ℤ, nat_abs, +ℤ_idl, ◌-ℤ◌}
use mir.Syntax.{w64}
use mir.Val.{SFits}
use Rattle.whole.proofs.Integers.{whole, abs, sub_in, abs_neg}
use Rattle.whole.proofs.Held.{held, is, num, dif, dif_need}
use Rattle.arrows.specs.Known.{greatest_part}
use Rattle.straying.proofs.opposite.Statement.{statement}
use Rattle.straying.proofs.opposite.Tie as tie

fit : (v : ℤ) → nat_abs v ≤ greatest_part → SFits w64 (pos 0 -ℤ v)
fit v h = let x = abs v in omega (whole, sub_in (pos 0) v)

sub_result : tie.Need-overflow_sub-result
sub_result c = dif_need (num w64 (pos 0) tt) (held c.ranges.v) (fit c.args.v c.requires)

returns : tie.Need-returns
returns c =
    let e = is (dif (num w64 (pos 0) tt) (held c.ranges.v) (fit c.args.v c.requires)) ∙ +ℤ_idl (neg_ℤ c.args.v) in
    (e, subst (λ (z : ℤ). nat_abs z ≤ greatest_part) (sym e) (subst (λ n. n ≤ greatest_part) (sym (abs_neg c.args.v)) c.requires))

pub opposite_spec : {M : Type 1} → statement M
opposite_spec = tie.close (tie.spec sub_result returns)
