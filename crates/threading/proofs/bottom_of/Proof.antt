-- `threading::bottom_of` meets its contract.
use mathlib.Core.Path.{◌≡◌, refl, sym, subst, ◌∙◌}
use lib.IntN.{◌+ℤ◌, ◌-ℤ◌}
use mir.Syntax.{w32}
use mir.Val.{SFits, to_z, of_z}
use mir.Facts.{to_z-of_z}
use borrow.Author.Rules.{rules, sfits_of}
use Rattle.whole.specs.Signed.{side_of, along}
use Rattle.axes.specs.Axis.{side}
use Rattle.axes.proofs.Axes.{picked}
use Rattle.threading.specs.Threading.{whole_depth, bottom}
use Rattle.threading.proofs.Counts.{Stands}
use Rattle.threading.proofs.bottom_of.Statement.{statement}
use Rattle.threading.proofs.bottom_of.Tie as tie

-- asked at the function's entry, where `search` still reaches them
stands : (s : tie.Start) → Stands s.args.t.infeed
stands s = record { start = search rules; target = search rules }

-- the side, from the numbers as they were read
side_is : (s : tie.Start) → side_of (to_z w32 (of_z w32 s.args.t.infeed.target) -ℤ to_z w32 (of_z w32 s.args.t.infeed.start)) ≡ side s.args.t.infeed
side_is s = λ i. side_of (to_z-of_z (stands s).target i -ℤ to_z-of_z (stands s).start i)

step_requires : tie.Need-step-requires
unfolding bottom
step_requires c κs =
    let s = c in
    let t = s.args.t in
    subst (SFits w32) (sym ((λ i. to_z-of_z (stands s.before.before.before.before.before.before).target i +ℤ along ((c.side_of-side.ensures ∙ side_is s.before.before.before.before.before.before) i) (c.depth_of-deep.ensures i))
    ∙ picked (t.infeed.target +ℤ along (side t.infeed) (whole_depth t)) t.infeed.target c.if-t.true refl)) s.requires.bottom

returns : tie.Need-returns-then-t
unfolding bottom
returns c =
    let w = c in
    let s = w in
    let t = s.args.t in
    picked (t.infeed.target +ℤ along (side t.infeed) (whole_depth t)) t.infeed.target w.if-t.true
    (to_z-of_z (sfits_of {w = w32} c.step.type_inv) ∙ c.step.ensures ∙ λ i. to_z-of_z (stands s.before.before.before.before.before.before.before).target i +ℤ along ((w.side_of-side.ensures ∙ side_is s.before.before.before.before.before.before.before) i) (w.depth_of-deep.ensures i))

returns_2 : tie.Need-returns
unfolding bottom
returns_2 c =
    let s = c in
    let t = s.args.t in
    picked (t.infeed.target +ℤ along (side t.infeed) (whole_depth t)) t.infeed.target c.if-t.false (to_z-of_z (stands s.before.before.before.before).target)

pub bottom_of_spec : {M : Type 1} → statement M
bottom_of_spec =
    tie.close (tie.spec (λ c κs. search rules) (λ c κs. search rules) step_requires returns returns_2)
