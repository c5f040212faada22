-- `sweeps::course_of` meets its contract.
use borrow.Author.Rules.{rules}
use mathlib.Core.Path.{◌≡◌, refl, sym, ◌∙◌, subst}
use Rattle.axes.proofs.Axes.{picked}
use Rattle.arrows.specs.declared.Arrow.{Arrow}
use Rattle.arcs.specs.declared.Arc.{Arc}
use Rattle.sweeps.specs.declared.Sweep.{Sweep}
use Rattle.sweeps.specs.declared.Sweep.TheVariants.{Full}
use Rattle.arcs.specs.Arcs.{start_of, end_of}
use Rattle.sweeps.specs.Sweeps.{sweep, sweep_of, course_of}
use Rattle.arrows.specs.Known.{Sized}
use Rattle.arcs.proofs.Sizes.{start_sized, end_sized}
use Rattle.sweeps.proofs.course_of.Statement.{statement}
use Rattle.sweeps.proofs.course_of.Tie as tie

from : (c : tie.After-arrow_to-from) → c.arrow_to-from.result ≡ start_of c.args.a
unfolding start_of
from c = c.arrow_to-from.ensures

to : (c : tie.After-arrow_to-to) → c.arrow_to-to.result ≡ end_of c.args.a
unfolding end_of
to c = c.arrow_to-to.ensures

-- a course of its parts
course : (a : Arc) {w : Sweep} {f t : Arrow} → w ≡ sweep_of a → f ≡ start_of a → t ≡ end_of a → record { clockwise = a.clockwise; sweep = w; from = f; to = t } ≡ course_of a
unfolding course_of
course a x y z = λ i. record { clockwise = a.clockwise; sweep = x i; from = y i; to = z i }

arrow_to_requires : tie.Need-arrow_to-from-requires
arrow_to_requires c κs = search rules

arrow_to_requires_2 : tie.Need-arrow_to-to-requires
arrow_to_requires_2 c κs = search rules

is_full_requires : tie.Need-is_full-requires
is_full_requires c κs = search rules

returns : tie.Need-returns-then-is_full
unfolding sweep_of
returns c =
    let a = c.args.a in
    course a (picked Full (sweep a.clockwise (start_of a) (end_of a)) (sym c.is_full.ensures ∙ c.if-is_full.true) refl) (from c.before.before.before) (to c.before.before)

sweep_between_requires : tie.Need-sweep_between-sweep-requires
sweep_between_requires c κs =
    let h = c.requires in
    (subst Sized (sym (from c.before.before.before)) (start_sized h), subst Sized (sym (to c.before.before)) (end_sized h))

returns_2 : tie.Need-returns
unfolding sweep_of
returns_2 c =
    let a = c.args.a in
    let f = from c.before.before.before.before in
    let t = to c.before.before.before in
    course a
    (picked Full (sweep a.clockwise (start_of a) (end_of a)) (sym c.is_full.ensures ∙ c.if-is_full.false) (c.sweep_between-sweep.ensures ∙ λ i. sweep a.clockwise (f i) (t i)))
    f t

pub course_of_spec : {M : Type 1} → statement M
course_of_spec =
    tie.close
    (tie.spec
    arrow_to_requires
    arrow_to_requires_2
    is_full_requires
    returns
    sweep_between_requires
    returns_2)
