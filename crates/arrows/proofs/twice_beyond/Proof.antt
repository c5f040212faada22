-- `arrows::twice_beyond` meets its contract.
use lib.IntN.{ℤ, pos, ◌-ℤ◌, ◌*ℤ◌}
use mir.Syntax.{w64}
use mir.Val.{SFits}
use Rattle.whole.proofs.Integers.{whole, wide, sub_in, up_mul, down_mul}
use Rattle.whole.proofs.Held.{held, is, num, dif, cast, prod, prod_need}
use Rattle.arrows.proofs.twice_beyond.Statement.{statement}
use Rattle.arrows.proofs.twice_beyond.Tie as tie

record Fit (a b : ℤ) : Type 0 where
  a64 : SFits w64 a
  b64 : SFits w64 b
  gap : SFits w64 (b -ℤ a)
  double : SFits w64 (pos 2 *ℤ (b -ℤ a))

fit : (c : tie.Start) → Fit c.args.from c.args.to
fit c =
    let a = c.args.from in
    let b = c.args.to in
    let d = sub_in b a in
    record { a64 = omega whole; b64 = omega whole; gap = omega whole; double = omega (whole, up_mul 2 (b -ℤ a), down_mul 2 (b -ℤ a)) }

cast_result : tie.Need-overflow_cast-result
cast_result c = search wide

cast_result_2 : tie.Need-overflow_cast-result-2
cast_result_2 c = search wide

sub_result : tie.Need-overflow_sub-result
sub_result c = search wide

mul_result : tie.Need-overflow_mul-result
mul_result c =
    let f = fit c in
    prod_need (num w64 (pos 2) tt) (dif (cast (held c.ranges.to) w64 f.b64) (cast (held c.ranges.from) w64 f.a64) f.gap) f.double

returns : tie.Need-returns
returns c =
    let f = fit c in
    is (prod (num w64 (pos 2) tt) (dif (cast (held c.ranges.to) w64 f.b64) (cast (held c.ranges.from) w64 f.a64) f.gap) f.double)

pub twice_beyond_spec : {M : Type 1} → statement M
twice_beyond_spec = tie.close (tie.spec cast_result cast_result_2 sub_result mul_result returns)
