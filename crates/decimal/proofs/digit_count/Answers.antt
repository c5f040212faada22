-- The logarithm says between which powers of ten the number lies.
use Rattle.std.proofs.Common.{◌+◌, ◌*◌, ◌^◌, ◌≡◌, ◌∙◌, ap, arith}
use native.Mathlib.Nat.{pow-suc}
use native.Mathlib.Numerals.{add-one}
use Rattle.decimal.proofs.Digits.{few_digits, many_digits}
use Rattle.decimal.proofs.digit_count.Goals as goal

pub returns : goal.returns
returns c =
    let n = c.args.n in
    let k = c.ilog10.result in
    let tens : 10 ^ (k + 1) ≡ 10 ^ k * 10 = ap (λ (x : _). 10 ^ x) (add-one k) ∙ pow-suc 10 k in
    omega (arith, few_digits (k + 1) n (omega (arith, tens, c.ilog10.ensures.next_power_gt)), many_digits k n c.ilog10.ensures.power_le)
