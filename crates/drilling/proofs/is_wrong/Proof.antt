-- `drilling::is_wrong` meets its contract.
use mathlib.Core.Path.{sym, ap, ◌∙◌}
use Prim.Native.Nat.{ℕ, ◌<◌}
use native.Mathlib.Omega.{arith}
use Rattle.bites.specs.Bites.{biting, has_zero}
use Rattle.drilling.specs.Drilling.{stroke_of}
use Rattle.drilling.proofs.Asked.{more_bites, wrong_part, wrong_stroke, wrong_bites, one_above}
use borrow.Author.Rules.{rules}
use Rattle.drilling.proofs.is_wrong.Statement.{statement}
use Rattle.drilling.proofs.is_wrong.Tie as tie

stroke_of_requires : tie.Need-stroke_of-stroke-requires
stroke_of_requires c κs = search rules

returns : tie.Need-returns-then-b-gt100
returns c = sym (wrong_part c.args.b (omega (arith, c.if-b-gt100.true)))

returns_2 : tie.Need-returns-then-stroke-eq0
returns_2 c =
    let o = c in
    sym (wrong_stroke o.args.b (sym o.stroke_of-stroke.ensures ∙ c.if-stroke-eq0.true))

returns_3 : tie.Need-returns-then-b-eq0
returns_3 c =
    let o = c in
    let b = o.args.b in
    let long : 0 < stroke_of b = omega (arith, o.stroke_of-stroke.ensures, c.if-stroke-eq0.false) in
    sym (wrong_bites b (omega (arith, c.if-b-gt100.false)) long ∙ one_above b long c.if-b-eq0.true)

has_zero_requires : tie.Need-has_zero-requires
has_zero_requires c κs = search rules

returns_4 : tie.Need-returns
returns_4 c =
    let o = c in
    let b = o.args.b in
    let long : 0 < stroke_of b = omega (arith, o.stroke_of-stroke.ensures, c.if-stroke-eq0.false) in
    c.has_zero.ensures
    ∙ ap (λ (n : ℕ). has_zero (biting b.less b.least b.first n n)) o.stroke_of-stroke.ensures
    ∙ sym (wrong_bites b (omega (arith, c.if-b-gt100.false)) long ∙ ap has_zero (more_bites b c.if-b-eq0.false))

pub is_wrong_spec : {M : Type 1} → statement M
is_wrong_spec =
    tie.close (tie.spec stroke_of_requires returns returns_2 returns_3 has_zero_requires returns_4)
