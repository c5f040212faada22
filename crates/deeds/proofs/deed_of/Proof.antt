-- `deeds::deed_of` meets its contract.
use mathlib.Core.Path.{refl, ◌∙◌}
use mathlib.Core.Bool.{◌||◌}
use Rattle.state.proofs.Settling.{given, stays}
use Rattle.deeds.specs.declared.Deed.TheVariants.{Nothing, Nowhere}
use Rattle.deeds.specs.Deed.{deed_of}
use Rattle.deeds.proofs.Doing.{deed_by}
use borrow.Author.Rules.{rules}
use Rattle.deeds.proofs.deed_of.Statement.{statement}
use Rattle.deeds.proofs.deed_of.Tie as tie

returns : tie.Need-returns-then-has_path-has_centre
unfolding deed_of
returns c =
    let h = c in
    let t = h in
    let a = t.args in
    given Nothing (λ i. h.has_path.ensures i || h.has_centre.ensures i) c.if-has_path-has_centre.true refl ∙ deed_by a.b a.s t.in-Nothing.is

returns_2 : tie.Need-returns-in-Of
unfolding deed_of
returns_2 c =
    let m = c in
    let a = m.args in
    c.move_of.ensures ∙ deed_by a.b a.s m.in-Of.is

returns_3 : tie.Need-returns-else-has_path-has_centre
unfolding deed_of
returns_3 c =
    let h = c in
    let t = h in
    let a = t.args in
    stays Nowhere Nothing (λ i. h.has_path.ensures i || h.has_centre.ensures i) c.if-has_path-has_centre.false ∙ deed_by a.b a.s t.in-Nothing.is

pub deed_of_spec : {M : Type 1} → statement M
deed_of_spec =
    tie.close
    (tie.spec
    (λ c. search rules)
    (λ c κs. search rules)
    (λ c. search rules)
    (λ c κs. search rules)
    (λ c κs. search rules)
    returns
    returns_2
    returns_3)
