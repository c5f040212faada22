-- `numbers::read_digits` meets its contract.
-- One law of `Reading` for each way out.
use mathlib.Core.Path.{sym, ap, ◌∙◌}
use mathlib.Core.Bool.{false}
use native.Mathlib.Omega.{arith}
use borrow.Author.Rules.{rules, sfits_of}
use lib.IntN.{ℤ}
use mir.Syntax.{w32}
use mir.Facts.{to_z-of_z}
use Rattle.numbers.specs.declared.Number.TheVariants.{Value}
use Rattle.numbers.proofs.Reading.{digits_left, digits_bare, digits_above, digits_good, ten_up}
use Rattle.numbers.proofs.read_digits.Statement.{statement}
use Rattle.numbers.proofs.read_digits.Tie as tie

digit_run_requires : tie.Need-digit_run-d-requires
digit_run_requires c κs = search rules

returns : tie.Need-returns-then-n-part
returns c =
    let g = c.digit_run-d in
    sym (digits_left _ _ _ g.result g.ensures c.if-n-part.true)

returns_2 : tie.Need-returns-then-n-eq0
returns_2 c =
    let g = c.digit_run-d in
    sym (digits_bare _ _ _ g.result g.ensures c.if-n-part.false c.if-n-eq0.true)

returns_3 : tie.Need-returns-then-value-most
returns_3 c =
    let g = c.digit_run-d in
    sym (digits_above _ _ _ g.result g.ensures c.if-n-part.false c.if-n-eq0.false c.if-value-most.true)

with_sign_requires : tie.Need-with_sign-requires
with_sign_requires c κs =
    let d = c.digit_run-d in
    omega (arith, ten_up {n = d.result.count} {m = 7} (omega arith))

returns_4 : tie.Need-returns
returns_4 c =
    let g = c.digit_run-d in
    ap (λ (z : ℤ). Value z false) (to_z-of_z (sfits_of {w = w32} c.with_sign.type_inv) ∙ c.with_sign.ensures)
    ∙ sym (digits_good _ _ _ g.result g.ensures c.if-n-part.false c.if-n-eq0.false c.if-value-most.false)

pub read_digits_spec : {M : Type 1} → statement M
read_digits_spec = tie.close (tie.spec digit_run_requires returns returns_2 returns_3 with_sign_requires returns_4)
