-- `bores::open` meets its contract.
use mathlib.Core.Path.{◌≡◌, sym, ◌∙◌, subst}
use mathlib.Core.Bool.{cond}
use lib.Dec.{eqb}
use Rattle.bores.specs.declared.Cursor.{Cursor}
use Rattle.bores.specs.declared.Stage.TheVariants.{Bite}
use Rattle.drilling.specs.Drilling.{drilling}
use Rattle.bores.specs.Cursor.{rest_of, Sound}
use Rattle.bores.proofs.Cursors.{opens_with, opens_sound}
use borrow.Author.Rules.{rules}
use Rattle.bores.proofs.open.Statement.{statement}
use Rattle.bores.proofs.open.Tie as tie

stroke_of_requires : tie.Need-stroke_of-stroke-requires
stroke_of_requires c κs = search rules

first_bite_requires : tie.Need-first_bite-bite-requires
first_bite_requires c κs = search rules

returns : tie.Need-returns
returns c =
    let s = c in
    let b = s.args.b in
    let n = c.stroke_of-stroke.ensures in
    let bite = c.first_bite-bite.ensures ∙ (λ i. cond (eqb b.first 0) (n i) b.first) in
    subst (λ (k : Cursor). (rest_of k ≡ drilling b) × Sound k) (sym (λ i. record { bore = b; stage = Bite; deep = 0; bite = bite i; left = n i }))
    (opens_with b s.requires, opens_sound b s.requires)

pub open_spec : {M : Type 1} → statement M
open_spec = tie.close (tie.spec stroke_of_requires first_bite_requires returns)
