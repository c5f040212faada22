-- `arrows::root::too_long` meets its contract.
use borrow.Author.Rules.{rules}
use borrow.Author.Tests.{lt-ltb, le-ltb}
use mathlib.Core.Path.{◌≡◌, refl, sym}
use mathlib.Core.Bool.{true, false}
use Prim.Native.Nat.{ℕ, ◌+◌, ◌-◌, ◌*◌, ◌≤◌, ◌<◌}
use native.Mathlib.Omega.{arith}
use native.Mathlib.Nat.{mul-le-mul}
use mir.Syntax.{w64}
use mir.Val.{Fits}
use Rattle.arrows.specs.Arrows.{slack, exceeds}
use Rattle.arrows.specs.Known.{start_square}
use Rattle.arrows.proofs.root.too_long.Statement.{statement}
use Rattle.arrows.proofs.root.too_long.Tie as tie

-- what the code takes for far above
abbrev surely : ℕ
surely = 4_000_000_000

-- not above by the square of the slack: not above
no_more : (m n : ℕ) → m ≤ n + slack * slack → exceeds m n ≡ false
unfolding exceeds
no_more m n h =
    let z : m - (n + slack * slack) ≡ 0 = omega arith in
    le-ltb (4 * (slack * slack) * n) ((m - (n + slack * slack)) * (m - (n + slack * slack))) (rw z (omega arith))

-- above by far
far_more : (m n above : ℕ) → above ≡ m - (n + slack * slack) → surely < above → n ≤ start_square → exceeds m n ≡ true
unfolding exceeds
far_more m n above e h k = lt-ltb (4 * (slack * slack) * n) ((m - (n + slack * slack)) * (m - (n + slack * slack))) (rw (← e) (omega (arith, mul-le-mul h h)))

mul_if1 : tie.Need-overflow_mul-t-4
mul_if1 c = search rules

add_if1 : tie.Need-overflow_add-n
add_if1 c = search rules

returns : tie.Need-returns-then-m-n
returns c = sym (no_more c.args.m c.args.n (omega arith))

mul_above : tie.Need-overflow_mul-above
mul_above c = search rules

add_above : tie.Need-overflow_add-above
add_above c = search rules

sub_above : tie.Need-overflow_sub-above
sub_above c = search rules

returns_2 : tie.Need-returns-then-above-gt-SURELY
returns_2 c =
    let m = c.args.m in
    let n = c.args.n in
    sym (far_more m n (m - (n + slack * slack)) refl (omega arith) (omega arith))

mul_result : tie.Need-overflow_mul-result
mul_result c = search rules

mul_result_2 : tie.Need-overflow_mul-result-2
mul_result_2 c = search rules

mul_result_3 : tie.Need-overflow_mul-result-3
mul_result_3 c = search rules

mul_result_4 : tie.Need-overflow_mul-result-4
mul_result_4 c =
    let m = c.args.m in
    let n = c.args.n in
    fit (m - (n + slack * slack)) (omega arith)
  where
    fit : (k : ℕ) → k ≤ surely → Fits w64 (k * k)
    fit k h = omega (arith, mul-le-mul h h)

returns_3 : tie.Need-returns
unfolding exceeds
returns_3 c = refl

pub too_long_spec : {M : Type 1} → statement M
too_long_spec =
    tie.close
    (tie.spec
    mul_if1
    add_if1
    returns
    mul_above
    add_above
    sub_above
    returns_2
    mul_result
    mul_result_2
    mul_result_3
    mul_result_4
    returns_3)
