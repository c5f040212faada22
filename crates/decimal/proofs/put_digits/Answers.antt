-- A digit more at each place, from the last one down.
use Rattle.std.proofs.Common.{refl, arith}
use Rattle.decimal.proofs.Numbers.{back_begin, back_some, back_next, back_ended}
use Rattle.decimal.proofs.put_digits.Goals as goal

pub loop-place-init : goal.loop-place-init
loop-place-init c = back_begin c.args.out.now c.args.at c.args.n (omega (arith, c.digit_count.ensures))

pub loop-place-preserved : goal.loop-place-preserved
loop-place-preserved c =
    let a = c.args in
    let g = c.loop-place.invariant in
    back_next a.out.now a.at a.n g c.requires.1 (back_some a.out.now a.at a.n g (omega arith)) refl

pub returns : goal.returns
returns c = back_ended c.args.out.now c.args.at c.args.n c.loop-place.invariant (omega (arith, c.digit_count.ensures)) (omega arith)
