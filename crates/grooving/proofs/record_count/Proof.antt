-- `grooving::record_count` meets its contract.
use borrow.Author.Rules.{rules}
use borrow.Author.Tests.{eq-eqb, ne_eqb}
use mathlib.Core.Path.{◌≡◌, sym, ◌∙◌}
use Prim.Native.Nat.{ℕ, ◌+◌, ◌*◌, ◌≤◌, ◌<◌}
use native.Mathlib.Nat.{mul-le-mul}
use native.Mathlib.Omega.{arith}
use Rattle.grooving.specs.Grooving.{step_count, record_count}
use Rattle.grooving.proofs.Counts.{grooving_length}
use Rattle.grooving.proofs.Rows.{few_steps, few_plunge}
use Rattle.grooving.proofs.record_count.Statement.{statement}
use Rattle.grooving.proofs.record_count.Tie as tie

returns : tie.Need-returns-then-steps-eq0
unfolding record_count
returns c =
    let s = c in
    let g = s.args.g in
    let e : step_count g ≡ 0 = sym c.step_count-steps.ensures ∙ c.if-steps-eq0.true in
    rw (grooving_length g s.requires.0, eq-eqb (step_count g) 0 e) c.plunge_count-plunge.ensures

-- lengths below 10^8 leave every number far below 2^64
record Few (n p : ℕ) : Type 0 where
  plunge : p < 1_000_000_000
  product : n * (p + 1) ≤ 100_000_000 * 1_000_000_000

few : (c : tie.Else-steps-eq0) → Few c.step_count-steps.result c.plunge_count-plunge.result
few c =
    let s = c in
    let g = s.args.g in
    let h : c.step_count-steps.result ≤ 100_000_000 = omega (arith, c.step_count-steps.ensures, few_steps g s.requires.0, s.requires.2) in
    let k : c.plunge_count-plunge.result + 1 ≤ 1_000_000_000 = omega (arith, c.plunge_count-plunge.ensures, few_plunge g s.requires.0, s.requires.1) in
    record { plunge = omega arith; product = mul-le-mul h k }

add_result : tie.Need-overflow_add-result
add_result c = omega (arith, few c)

mul_result : tie.Need-overflow_mul-result
mul_result c = omega (arith, few c)

add_result_2 : tie.Need-overflow_add-result-2
add_result_2 c = omega (arith, few c)

add_result_3 : tie.Need-overflow_add-result-3
add_result_3 c = omega (arith, few c)

returns_2 : tie.Need-returns
unfolding record_count
returns_2 c =
    let s = c in
    let g = s.args.g in
    let n = c.step_count-steps.ensures in
    let p = c.plunge_count-plunge.ensures in
    rw (grooving_length g s.requires.0, ne_eqb (step_count g) 0 (λ e. c.if-steps-eq0.false (n ∙ e))) (λ i. p i + (n i * (p i + 1) + 1))

pub record_count_spec : {M : Type 1} → statement M
record_count_spec =
    tie.close
    (tie.spec
    (λ c κs. search rules)
    (λ c. search rules)
    (λ c κs. search rules)
    returns
    add_result
    mul_result
    add_result_2
    add_result_3
    returns_2)
