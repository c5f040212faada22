-- `arrows::square_of` meets its contract.
use borrow.Author.Rules.{rules}
use mathlib.Core.Path.{◌≡◌, ◌∙◌}
use Prim.Native.Nat.{ℕ, ◌+◌, ◌*◌, ◌≤◌, ◌<◌, ◌^◌}
use native.Mathlib.Omega.{arith}
use native.Mathlib.Nat.{mul-le-mul}
use lib.IntN.{nat_abs}
use Rattle.arrows.specs.Arrows.{square}
use Rattle.arrows.specs.Known.{greatest_part}
use Rattle.arrows.proofs.square_of.Statement.{statement}
use Rattle.arrows.proofs.square_of.Tie as tie

squared_requires : tie.Need-squared-requires
squared_requires c κs = search rules

squared_requires_2 : tie.Need-squared-requires-2
squared_requires_2 c κs = search rules

first : (c : tie.After-squared) → c.squared.result ≡ nat_abs c.args.a.right * nat_abs c.args.a.right
first c = c.squared.ensures ∙ search rules

second : (c : tie.After-squared-2) → c.squared-2.result ≡ nat_abs c.args.a.up * nat_abs c.args.a.up
second c = c.squared-2.ensures ∙ search rules

fit : (a b : ℕ) → a ≤ greatest_part → b ≤ greatest_part → a * a + b * b < 2 ^ 64
fit a b h k = omega (arith, mul-le-mul h h, mul-le-mul k k)

add_result : tie.Need-overflow_add-result
add_result c =
    let a = c.args.a in
    let e = first c.before.before in
    let f = second c in
    let l = fit (nat_abs a.right) (nat_abs a.up) c.requires.right c.requires.up in
    omega arith

returns : tie.Need-returns
unfolding square
returns c = λ i. first c.before.before i + second c i

pub square_of_spec : {M : Type 1} → statement M
square_of_spec = tie.close (tie.spec squared_requires squared_requires_2 add_result returns)
