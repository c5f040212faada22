-- `arrows::dot_of` meets its contract.
use borrow.Author.Rules.{rules, sfits_of}
use mathlib.Core.Path.{◌≡◌, ◌∙◌}
use lib.IntN.{ℤ, nat_abs, ◌+ℤ◌, ◌*ℤ◌}
use mir.Syntax.{w64}
use mir.Val.{SFits}
use Prim.Native.Nat.{◌*◌, ◌≤◌}
use Rattle.whole.proofs.Integers.{whole, add_in, abs}
use Rattle.whole.proofs.Held.{held, is, sum, sum_need}
use Rattle.arrows.specs.Arrows.{dot}
use Rattle.arrows.specs.Known.{greatest_part}
use Rattle.arrows.proofs.dot_of.Statement.{statement}
use Rattle.arrows.proofs.dot_of.Tie as tie

product_requires : tie.Need-product-requires
product_requires c κs = search rules

product_requires_2 : tie.Need-product-requires-2
product_requires_2 c κs = search rules

fit : (a b : ℤ) → nat_abs a ≤ greatest_part * greatest_part → nat_abs b ≤ greatest_part * greatest_part → SFits w64 (a +ℤ b)
fit a b h k = let x = abs a in let y = abs b in omega (whole, add_in a b)

first : (c : tie.After-product) → c.product.result ≡ c.args.a.right *ℤ c.args.b.right
first c = c.product.ensures.0 ∙ search rules

second : (c : tie.After-product-2) → c.product-2.result ≡ c.args.a.up *ℤ c.args.b.up
second c = c.product-2.ensures.0 ∙ search rules

add_result : tie.Need-overflow_add-result
add_result c =
    let d = c in
    let x : SFits w64 d.product.result = sfits_of d.product.type_inv in
    let y : SFits w64 c.product-2.result = sfits_of c.product-2.type_inv in
    sum_need (held x) (held y) (fit d.product.result c.product-2.result d.product.ensures.1 c.product-2.ensures.1)

returns : tie.Need-returns
unfolding dot
returns c =
    let d = c in
    let x : SFits w64 d.product.result = sfits_of d.product.type_inv in
    let y : SFits w64 c.product-2.result = sfits_of c.product-2.type_inv in
    is (sum (held x) (held y) (fit d.product.result c.product-2.result d.product.ensures.1 c.product-2.ensures.1))
    ∙ λ i. first d.before.before.before i +ℤ second c i

pub dot_of_spec : {M : Type 1} → statement M
dot_of_spec = tie.close (tie.spec product_requires product_requires_2 add_result returns)
