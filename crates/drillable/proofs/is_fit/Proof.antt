-- `drillable::is_fit` meets its contract.
use mathlib.Core.Path.{◌≡◌, sym, ◌∙◌}
use mathlib.Core.Bool.{false}
use Prim.Native.Nat.{◌+◌, ◌≤◌}
use native.Mathlib.Omega.{arith}
use Rattle.bites.specs.Bites.{has_zero}
use Rattle.drilling.specs.Drilling.{stroke_of}
use Rattle.bores.specs.Cursor.{bites_of}
use Rattle.telling.proofs.Tells.{never, tells_no}
use Rattle.drillable.proofs.Fit.{tells_sound}
use borrow.Author.Rules.{rules}
use Rattle.drillable.proofs.is_fit.Statement.{statement}
use Rattle.drillable.proofs.is_fit.Tie as tie

stroke_of_requires : tie.Need-stroke_of-stroke-requires
stroke_of_requires c κs = search rules

returns : tie.Need-returns-then-bore-gt100
returns c = tells_no (λ s. omega (arith, s.part, c.if-bore-gt100.true))

cast_if2 : tie.Need-overflow_cast-c
cast_if2 c = search rules

cast_if2_2 : tie.Need-overflow_cast-c-2
cast_if2_2 c = search rules

add_if2 : tie.Need-overflow_add-c
add_if2 c = search rules

cast_if2_3 : tie.Need-overflow_cast-stroke
cast_if2_3 c = search rules

returns_2 : tie.Need-returns-then-c-stroke
returns_2 c = tells_no (λ s. c.if-c-stroke.true (s.whole ∙ sym c.stroke_of-stroke.ensures))

has_zero_requires : tie.Need-has_zero-requires
has_zero_requires c κs = search rules

returns_3 : tie.Need-returns-then-has_zero
returns_3 c = tells_no (λ s. never (sym s.above ∙ sym c.has_zero.ensures ∙ c.if-has_zero.true))

is_ready_requires : tie.Need-is_ready-requires
is_ready_requires c κs = search rules

returns_4 : tie.Need-returns
returns_4 c =
    let equal = c in
    let small = equal in
    let called = small in
    let k = called.args.c in
    let part : k.bore.less ≤ 100 = omega (arith, small.if-bore-gt100.false) in
    let whole : k.deep + k.left ≡ stroke_of k.bore = equal.if-c-stroke.false ∙ called.stroke_of-stroke.ensures in
    let above : has_zero (bites_of k) ≡ false = sym c.has_zero.ensures ∙ c.if-has_zero.false in
    tells_sound k part whole above c.is_ready.ensures

pub is_fit_spec : {M : Type 1} → statement M
is_fit_spec =
    tie.close
    (tie.spec
    stroke_of_requires
    returns
    cast_if2
    cast_if2_2
    add_if2
    cast_if2_3
    returns_2
    has_zero_requires
    returns_3
    is_ready_requires
    returns_4)
