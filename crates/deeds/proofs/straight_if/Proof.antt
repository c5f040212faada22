-- `deeds::straight_if` meets its contract.
use mathlib.Core.Path.{refl, ◌∙◌}
use Rattle.state.proofs.Settling.{given, stays}
use Rattle.deeds.specs.declared.Deed.TheVariants.{Nothing, Nowhere}
use Rattle.deeds.specs.Deed.{straight_if}
use borrow.Author.Rules.{rules}
use Rattle.deeds.proofs.straight_if.Statement.{statement}
use Rattle.deeds.proofs.straight_if.Tie as tie

has_centre_requires : tie.Need-has_centre-requires
has_centre_requires c κs = search rules

returns : tie.Need-returns-then-has_centre
unfolding straight_if
returns c = let h = c in given _ h.has_centre.ensures c.if-has_centre.true refl

has_path_requires : tie.Need-has_path-requires
has_path_requires c κs = search rules

returns_2 : tie.Need-returns-then-has_path
unfolding straight_if
returns_2 c =
    let p = c in
    let e = p in
    let h = e in
    given Nothing p.has_path.ensures c.if-has_path.true refl ∙ stays Nowhere _ h.has_centre.ensures e.if-has_centre.false

returns_3 : tie.Need-returns
unfolding straight_if
returns_3 c =
    let p = c in
    let e = p in
    let h = e in
    stays _ Nothing p.has_path.ensures c.if-has_path.false ∙ stays Nowhere _ h.has_centre.ensures e.if-has_centre.false

pub straight_if_spec : {M : Type 1} → statement M
straight_if_spec = tie.close (tie.spec has_centre_requires returns has_path_requires returns_2 returns_3)
