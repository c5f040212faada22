-- `cyclewords::cutting::cuts_at` meets its contract.
use mathlib.Core.Path.{ap}
use borrow.Author.Rules.{rules}
use borrow.Author.Tests.{eq-eqb, ne_eqb}
use Rattle.cuts.specs.declared.Cuts.TheVariants.{Even, ByDepth, ByNumber}
use Rattle.cyclewords.proofs.cutting.cuts_at.Statement.{statement}
use Rattle.cyclewords.proofs.cutting.cuts_at.Tie as tie

returns : tie.Need-returns-then-tag-eq-EVEN
returns c = rw (eq-eqb _ _ c.if-tag-eq-EVEN.true) (ap Even c.pieces_at.ensures)

returns_2 : tie.Need-returns-then-tag-eq-BY_DEPTH
returns_2 c = let f = c in rw (ne_eqb _ _ f.if-tag-eq-EVEN.false, eq-eqb _ _ c.if-tag-eq-BY_DEPTH.true) (ap ByDepth f.falling_at-falling.ensures)

returns_3 : tie.Need-returns
returns_3 c = let f = c in rw (ne_eqb _ _ f.if-tag-eq-EVEN.false, ne_eqb _ _ c.if-tag-eq-BY_DEPTH.false) (ap ByNumber f.falling_at-falling.ensures)

pub cuts_at_spec : {M : Type 1} → statement M
cuts_at_spec =
    tie.close
    (tie.spec
    (λ c. search rules)
    (λ c. search rules)
    (λ c. search rules)
    (λ c κs. search rules)
    returns
    (λ c. search rules)
    (λ c κs. search rules)
    returns_2
    returns_3)
