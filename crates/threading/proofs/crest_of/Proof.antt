-- `threading::crest_of` meets its contract.
use mathlib.Core.Path.{◌≡◌, sym, ap, subst, ◌∙◌}
use mathlib.Core.Bool.{Bool, false, not, ◌&&◌}
use Prim.Native.Nat.{◌-◌, ◌≤◌}
use native.Mathlib.Omega.{arith}
use lib.Dec.{ltb}
use lib.IntN.{◌+ℤ◌, ◌-ℤ◌}
use mir.Syntax.{w32}
use mir.Val.{SFits, to_z, of_z}
use mir.Facts.{to_z-of_z}
use borrow.Author.Rules.{rules, sfits_of}
use borrow.Author.Tests.{ltb-false}
use Rattle.whole.specs.Signed.{side_of, along}
use Rattle.whole.proofs.Sides.{toward}
use Rattle.axes.specs.Axis.{distance, side}
use Rattle.axes.proofs.Axes.{picked, line_net}
use Rattle.threading.specs.Threading.{whole_depth, crest, crest_beyond}
use Rattle.threading.proofs.Asked.{right}
use Rattle.threading.proofs.Counts.{Stands}
use Rattle.threading.proofs.crest_of.Statement.{statement}
use Rattle.threading.proofs.crest_of.Tie as tie

-- asked at the function's entry, where `search` still reaches them
stands : (s : tie.Start) → Stands s.args.t.infeed
stands s = record { start = search rules; target = search rules }

-- the side, from the numbers as they were read
side_is : (s : tie.Start) → side_of (to_z w32 (of_z w32 s.args.t.infeed.target) -ℤ to_z w32 (of_z w32 s.args.t.infeed.start)) ≡ side s.args.t.infeed
side_is s = λ i. side_of (to_z-of_z (stands s).target i -ℤ to_z-of_z (stands s).start i)

start_of : tie.After-depth_of-deep → tie.Start
start_of c = c.before.before.before.before.before.before.before

-- a target that is the bottom lies no nearer than the depth
room : (s : tie.Start) → s.args.t.nominal ≡ false → whole_depth s.args.t ≤ distance s.args.t.infeed
unfolding crest_beyond
room s e =
    let t = s.args.t in
    ltb-false (distance t.infeed) (whole_depth t) (ap (λ (b : Bool). not b && ltb (distance t.infeed) (whole_depth t)) (sym e) ∙ (right t s.requires.1).crest)

returns : tie.Need-returns-then-t
unfolding crest
returns c =
    let s = c in
    let t = s.args.t in
    picked t.infeed.target (t.infeed.target -ℤ along (side t.infeed) (whole_depth t)) c.if-t.true (to_z-of_z (stands s.before.before.before.before).target)

sub_step : tie.Need-overflow_sub-way
unfolding start_of
sub_step c =
    let d = c in
    let h = room (start_of c) d.if-t.false in
    omega (arith, h, c.depth_of-deep.ensures, d.distance_of-way.ensures)

step_requires : tie.Need-step-requires
unfolding start_of
step_requires c κs =
    let s = start_of c in
    let t = s.args.t in
    let h = stands s in
    subst (SFits w32) (sym (λ i. to_z-of_z h.start i +ℤ along ((c.side_of-side.ensures ∙ side_is s) i) (c.distance_of-way.ensures i - c.depth_of-deep.ensures i)))
    (toward h.start h.target (distance t.infeed - whole_depth t) (omega arith))

returns_2 : tie.Need-returns
unfolding crest start_of
returns_2 c =
    let w = c in
    let s = start_of w.before in
    let t = s.args.t in
    let h = stands s in
    picked t.infeed.target (t.infeed.target -ℤ along (side t.infeed) (whole_depth t)) w.if-t.false
    (to_z-of_z (sfits_of {w = w32} c.step.type_inv) ∙ c.step.ensures
    ∙ (λ i. to_z-of_z h.start i +ℤ along ((w.side_of-side.ensures ∙ side_is s) i) (w.distance_of-way.ensures i - w.depth_of-deep.ensures i))
    ∙ line_net (record { start = t.infeed.start; target = t.infeed.target; allowance = whole_depth t }) (room s w.if-t.false))

pub crest_of_spec : {M : Type 1} → statement M
crest_of_spec =
    tie.close
    (tie.spec
    returns
    (λ c κs. search rules)
    (λ c κs. search rules)
    (λ c κs. search rules)
    sub_step
    step_requires
    returns_2)
