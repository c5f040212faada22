-- `arcs::is_uneven` meets its contract.
use borrow.Author.Rules.{rules}
use borrow.Author.Tests.{eq-eqb, ne_eqb}
use mathlib.Core.Path.{◌≡◌, sym, ap, ◌∙◌, subst}
use mathlib.Core.Bool.{Bool, true, ◌||◌}
use Prim.Native.Nat.{ℕ, ◌≤◌, min}
use native.Mathlib.Omega.{arith}
use lib.Dec.{eqb}
use Rattle.arcs.specs.declared.Arc.{Arc}
use Rattle.arrows.specs.Arrows.{square, exceeds}
use Rattle.arcs.specs.Arcs.{start_of, end_of, uneven}
use Rattle.arrows.specs.Known.{start_square, end_square, Sized}
use Rattle.arcs.proofs.Sizes.{start_sized, end_sized, start_square_lem, end_square_lem}
use Rattle.arcs.proofs.is_uneven.Statement.{statement}
use Rattle.arcs.proofs.is_uneven.Tie as tie

-- the judgement, of the two squares
abbrev judged : ℕ → ℕ → Bool
judged m n = (eqb m 0 || eqb n 0) || (exceeds m n || exceeds n m)

start_zero : (m n : ℕ) → m ≡ 0 → judged m n ≡ true
start_zero m n e = ap (λ (t : Bool). (t || eqb n 0) || (exceeds m n || exceeds n m)) (eq-eqb m 0 e)

end_zero : (m n : ℕ) → (m ≡ 0 → ⊥) → n ≡ 0 → judged m n ≡ true
end_zero m n h e = λ i. (ne_eqb m 0 h i || eq-eqb n 0 e i) || (exceeds m n || exceeds n m)

neither : (m n : ℕ) → (m ≡ 0 → ⊥) → (n ≡ 0 → ⊥) → judged m n ≡ (exceeds m n || exceeds n m)
neither m n h k = λ i. (ne_eqb m 0 h i || ne_eqb n 0 k i) || (exceeds m n || exceeds n m)

of_arc : (a : Arc) (m n : ℕ) → m ≡ square (start_of a) → n ≡ square (end_of a) → judged m n ≡ uneven a
unfolding uneven
of_arc a m n e f = λ i. judged (e i) (f i)

from : (c : tie.After-arrow_to) → c.arrow_to.result ≡ start_of c.args.a
unfolding start_of
from c = c.arrow_to.ensures

to : (c : tie.After-arrow_to-2) → c.arrow_to-2.result ≡ end_of c.args.a
unfolding end_of
to c = c.arrow_to-2.ensures

m_is : (c : tie.After-square_of-m) → c.square_of-m.result ≡ square (start_of c.args.a)
m_is c = c.square_of-m.ensures ∙ ap square (from c.before)

n_is : (c : tie.After-square_of-n) → c.square_of-n.result ≡ square (end_of c.args.a)
n_is c = c.square_of-n.ensures ∙ ap square (to c.before)

arrow_to_requires : tie.Need-arrow_to-requires
arrow_to_requires c κs = search rules

square_of_requires : tie.Need-square_of-m-requires
square_of_requires c κs = subst Sized (sym (from c)) (start_sized c.requires)

arrow_to_requires_2 : tie.Need-arrow_to-requires-2
arrow_to_requires_2 c κs = search rules

square_of_requires_2 : tie.Need-square_of-n-requires
square_of_requires_2 c κs = subst Sized (sym (to c)) (end_sized c.requires)

returns : tie.Need-returns-then-m-eq0
returns c =
    let d = c in
    let s = d in
    sym (start_zero d.square_of-m.result d.square_of-n.result c.if-m-eq0.true) ∙ of_arc s.args.a d.square_of-m.result d.square_of-n.result (m_is d.before.before.before) (n_is d.before)

returns_2 : tie.Need-returns-then-n-eq0
returns_2 c =
    let d = c in
    let s = d in
    sym (end_zero d.square_of-m.result d.square_of-n.result c.if-m-eq0.false c.if-n-eq0.true) ∙ of_arc s.args.a d.square_of-m.result d.square_of-n.result (m_is d.before.before.before.before) (n_is d.before.before)

record Small (m n : ℕ) : Type 0 where
  least : min m n ≤ start_square
  most : n ≤ end_square

small : (m n : ℕ) → m ≤ start_square → n ≤ end_square → Small m n × Small n m
small m n h k = (record { least = omega arith; most = omega arith }, record { least = omega arith; most = omega arith })

sizes : (d : tie.After-square_of-n) → Small d.square_of-m.result d.square_of-n.result × Small d.square_of-n.result d.square_of-m.result
sizes d =
    let p = d.requires in
    small d.square_of-m.result d.square_of-n.result (subst (λ (k : ℕ). k ≤ start_square) (sym (m_is d.before.before)) (start_square_lem p)) (subst (λ (k : ℕ). k ≤ end_square) (sym (n_is d)) (end_square_lem p))

too_long_requires : tie.Need-too_long-requires
too_long_requires c κs = let k = sizes c.before.before in (k.0.least, k.0.most)

too_long_requires_2 : tie.Need-too_long-requires-2
too_long_requires_2 c κs = let k = sizes c.before.before.before in (k.1.least, k.1.most)

returns_3 : tie.Need-returns
returns_3 c =
    let e = c in
    let d = e in
    let s = d in
    let m = d.square_of-m.result in
    let n = d.square_of-n.result in
    (λ i. c.too_long.ensures i || c.too_long-2.ensures i)
    ∙ (sym (neither m n e.if-m-eq0.false e.if-n-eq0.false) ∙ of_arc s.args.a m n (m_is d.before.before.before.before.before.before) (n_is d.before.before.before.before))

pub is_uneven_spec : {M : Type 1} → statement M
is_uneven_spec =
    tie.close
    (tie.spec
    arrow_to_requires
    square_of_requires
    arrow_to_requires_2
    square_of_requires_2
    returns
    returns_2
    too_long_requires
    too_long_requires_2
    returns_3)
