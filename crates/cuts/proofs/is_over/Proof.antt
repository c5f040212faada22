-- `cuts::is_over` meets its contract.
use mathlib.Core.Path.{sym, ap}
use borrow.Author.Rules.{rules}
use Rattle.cuts.specs.Cuts.{over}
use Rattle.cuts.proofs.is_over.Statement.{statement}
use Rattle.cuts.proofs.is_over.Tie as tie

returns : tie.Need-returns-in-Even
unfolding over
returns c = sym (ap over c.in-Even.is)

returns_2 : tie.Need-returns-in-ByDepth
unfolding over
returns_2 c = sym (ap over c.in-ByDepth.is)

returns_3 : tie.Need-returns-in-ByNumber
unfolding over
returns_3 c = sym (ap over c.in-ByNumber.is)

pub is_over_spec : {M : Type 1} → statement M
is_over_spec =
    tie.close (tie.spec (λ c. search rules) (λ c. search rules) (λ c. search rules) returns returns_2 returns_3)
