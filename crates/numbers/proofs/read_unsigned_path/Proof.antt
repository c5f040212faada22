-- `numbers::read_unsigned_path` meets its contract.
-- One law of `Reading` for each way out, handed the run before the point and the run behind it.
-- Whether the run before the point is too long is read off by `omega`, so that another bound is refused for what it fails.
use mathlib.Core.Path.{sym, ap, ◌∙◌}
use mathlib.Core.Bool.{true, false}
use Prim.Native.Nat.{◌*◌, ◌<◌}
use native.Mathlib.Omega.{arith}
use borrow.Author.Rules.{rules, sfits_of}
use borrow.Author.Tests.{eq-eqb, ne_eqb, lt-ltb, lt-leb}
use lib.IntN.{ℤ}
use mir.Syntax.{w32}
use mir.Facts.{to_z-of_z}
use Rattle.numbers.specs.declared.Number.TheVariants.{Value}
use Rattle.numbers.proofs.Reading.{path_end, path_other, path_long, path_bare, path_good, behind_point, ten_up}
use Rattle.numbers.proofs.read_unsigned_path.Statement.{statement}
use Rattle.numbers.proofs.read_unsigned_path.Tie as tie

returns : tie.Need-returns-then-n-eq0
returns c =
    let g = c.digit_run-whole in
    sym (path_end _ _ _ g.result g.ensures c.if-p-part.true ∙ rw c.if-n-eq0.true)

with_sign_requires : tie.Need-with_sign-requires
with_sign_requires c κs =
    let d = c.digit_run-whole in
    omega (arith, ten_up {n = d.result.count} {m = 7} d.ensures.few)

returns_2 : tie.Need-returns-then-p-part
returns_2 c =
    let g = c.digit_run-whole in
    ap (λ (z : ℤ). Value z false) (to_z-of_z (sfits_of {w = w32} c.with_sign.type_inv) ∙ c.with_sign.ensures)
    ∙ sym (path_end _ _ _ g.result g.ensures (omega arith) ∙ rw (lt-ltb 0 g.result.count (omega arith)))

returns_3 : tie.Need-returns-then-part-p-ne46
returns_3 c =
    let g = c.digit_run-whole in
    sym (path_other _ _ _ g.result g.ensures c.if-p-part.false (rw (ne_eqb _ _ c.if-part-p-ne46.true)))

returns_5 : tie.Need-returns-then-q-m
returns_5 c =
    let g = c.digit_run-whole in
    let f = c.digit_run-rest in
    sym (path_long _ _ _ g.result g.ensures f.result (omega arith) c.if-part-p-ne46.false (omega arith) f.ensures c.if-q-m.true)

returns_6 : tie.Need-returns-then-n-m-eq0
returns_6 c =
    let g = c.digit_run-whole in
    let f = c.digit_run-rest in
    sym (path_bare _ _ _ g.result g.ensures f.result (omega arith) c.if-part-p-ne46.false (omega arith) f.ensures c.if-q-m.false c.if-n-m-eq0.true)

mul_with_sign : tie.Need-overflow_mul-whole
mul_with_sign c =
    let d = c.digit_run-whole in
    omega (arith, ten_up {n = d.result.count} {m = 4} (omega arith))

-- both parts of the sum
sums : (c : tie.After-struct_known-2-1) → (c.digit_run-whole.result.value < 10_000)
    × (c.digit_run-rest.result.value * c.worth.result < 1000)
sums c =
    let d = c.digit_run-whole in
    let f = c.digit_run-rest in (
      omega (arith, ten_up {n = d.result.count} {m = 4} (omega arith)),
      rw c.worth.ensures (behind_point f.result.value f.result.count f.ensures.few f.ensures.small),
    )

mul_with_sign_2 : tie.Need-overflow_mul-rest
mul_with_sign_2 c = omega (arith, sums c)

add_with_sign : tie.Need-overflow_add-whole
add_with_sign c = omega (arith, sums c)

with_sign_requires_2 : tie.Need-with_sign-requires-2
with_sign_requires_2 c κs = omega (arith, sums c)

returns_7 : tie.Need-returns
returns_7 c =
    let g = c.digit_run-whole in
    let f = c.digit_run-rest in
    ap (λ (z : ℤ). Value z true) (to_z-of_z (sfits_of {w = w32} c.with_sign-2.type_inv) ∙ c.with_sign-2.ensures ∙ rw c.worth.ensures)
    ∙ sym (path_good _ _ _ g.result g.ensures f.result (omega arith) (omega arith) (omega arith) f.ensures (omega arith) (omega arith))

pub read_unsigned_path_spec : {M : Type 1} → statement M
read_unsigned_path_spec =
    tie.close
    (tie.spec
    (λ c κs. search rules)
    (λ c. search rules)
    returns
    with_sign_requires
    returns_2
    (λ c. search rules)
    returns_3
    (λ c. sym (path_other _ _ _ c.digit_run-whole.result c.digit_run-whole.ensures (omega arith) (rw (eq-eqb _ _ c.if-part-p-ne46.false, lt-leb c.digit_run-whole.result.count 4 (omega arith)))))
    (λ c. search rules)
    (λ c κs. search rules)
    (λ c. search rules)
    returns_5
    (λ c. search rules)
    returns_6
    mul_with_sign
    (λ c κs. search rules)
    mul_with_sign_2
    add_with_sign
    with_sign_requires_2
    returns_7)
