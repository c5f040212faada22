-- `wording::onward_of` meets its contract.
use mathlib.Core.Path.{◌∙◌}
use borrow.Author.Rules.{rules}
use borrow.Author.Tests.{eq-eqb, ne_eqb}
use Rattle.places.specs.declared.Found.TheVariants.{Nowhere}
use Rattle.taking.specs.Meets.{onward_in}
use Rattle.wording.proofs.onward_of.Statement.{statement}
use Rattle.wording.proofs.onward_of.Tie as tie

returns : tie.Need-returns-then-left-eq0
unfolding onward_in
returns c = (λ _. rw (eq-eqb _ _ c.if-left-eq0.true), record { found = Nowhere; asks = rw (eq-eqb _ _ c.if-left-eq0.true) })

returns_2 : tie.Need-returns
unfolding onward_in
returns_2 c =
    let l = c.look_up.ensures in (
      λ row. l.0 row ∙ rw (c.request_of-next.ensures, ne_eqb _ _ c.if-left-eq0.false),
      record { found = l.1.found; asks = l.1.looks ∙ rw (c.request_of-next.ensures, ne_eqb _ _ c.if-left-eq0.false) },
    )

pub onward_of_spec : {M : Type 1} → statement M
onward_of_spec = tie.close (tie.spec returns (λ c κs. search rules) (λ c κs. search rules) returns_2)
