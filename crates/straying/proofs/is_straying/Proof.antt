-- `straying::is_straying` meets its contract.
use borrow.Author.Rules.{rules}
use mathlib.Core.Path.{◌≡◌, sym, ap, ◌∙◌, subst}
use mathlib.Core.Bool.{false, ◌||◌}
use Rattle.settings.specs.Limits.{outside}
use Rattle.sweeps.specs.declared.Course.{Course}
use Rattle.arrows.specs.Arrows.{square}
use Rattle.arcs.specs.Arcs.{start_of, radius2}
use Rattle.sweeps.specs.Sweeps.{course_of}
use Rattle.straying.specs.Straying.{lows, highs, strays_somewhere, straying}
use Rattle.arrows.specs.Known.{Sized}
use Rattle.arcs.proofs.Sizes.{start_sized}
use Rattle.straying.proofs.Limits.{low_sized, high_sized}
use Rattle.straying.proofs.is_straying.Statement.{statement}
use Rattle.straying.proofs.is_straying.Tie as tie

-- ---- what the calls gave
end_outside : (c : tie.After-is_outside) → let s = c in c.is_outside.result ≡ outside s.args.l s.args.a.end.x s.args.a.end.z
end_outside c = c.is_outside.ensures ∙ search rules

low : (c : tie.After-arrow_to-low) → let s = c in c.arrow_to-low.result ≡ lows s.args.l s.args.a
unfolding lows
low c = c.arrow_to-low.ensures ∙ search rules

high : (c : tie.After-arrow_to-high) → let s = c in c.arrow_to-high.result ≡ highs s.args.l s.args.a
unfolding highs
high c = c.arrow_to-high.ensures ∙ search rules

course : (c : tie.After-course_of-c) → c.course_of-c.result ≡ course_of c.args.a
course c = c.course_of-c.ensures

start_is : (c : tie.After-course_of-c) → c.course_of-c.result.from ≡ start_of c.args.a
unfolding course_of
start_is c = ap (λ (k : Course). k.from) (course c)

radius_is : (c : tie.After-square_of-n) → c.square_of-n.result ≡ radius2 c.args.a
unfolding radius2
radius_is c = c.square_of-n.ensures ∙ ap square (start_is c.before.before)

is_outside_requires : tie.Need-is_outside-requires
is_outside_requires c κs = search rules

returns : tie.Need-returns-then-is_outside
unfolding straying
returns c = let e = sym (end_outside c.before) ∙ c.if-is_outside.true in simp e

arrow_to_requires : tie.Need-arrow_to-low-requires
arrow_to_requires c κs = search rules

arrow_to_requires_2 : tie.Need-arrow_to-high-requires
arrow_to_requires_2 c κs = search rules

course_of_requires : tie.Need-course_of-c-requires
course_of_requires c κs = search rules

square_of_requires : tie.Need-square_of-n-requires
square_of_requires c κs = subst Sized (sym (start_is c.before)) (start_sized c.requires.0)

strays_somewhere_requires : tie.Need-strays_somewhere-requires
strays_somewhere_requires c κs =
    let h = c.requires.1 in
    (subst Sized (sym (low c.before.before.before.before.before.before)) (low_sized h), subst Sized (sym (high c.before.before.before)) (high_sized h))

returns_2 : tie.Need-returns
unfolding straying
returns_2 c =
    let s = c in
    let o = c in
    let e : outside s.args.l s.args.a.end.x s.args.a.end.z ≡ false = sym (end_outside o.before.before.before.before.before.before.before.before.before.before.before.before.before) ∙ c.if-is_outside.false in
    c.strays_somewhere.ensures ∙ λ i. sym e i || strays_somewhere (low c.before.before.before.before.before.before.before i) (high c.before.before.before.before i) (radius_is c.before i) (course c.before.before.before i)

pub is_straying_spec : {M : Type 1} → statement M
is_straying_spec =
    tie.close
    (tie.spec
    is_outside_requires
    returns
    arrow_to_requires
    arrow_to_requires_2
    course_of_requires
    square_of_requires
    strays_somewhere_requires
    returns_2)
