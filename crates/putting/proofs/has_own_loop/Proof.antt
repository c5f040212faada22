-- `putting::has_own_loop` meets its contract.
use borrow.Author.Rules.{rules}
use mathlib.Core.Path.{sym, ap, ◌∙◌}
use Rattle.putting.specs.Cycles.{has_own_loop}
use Rattle.putting.proofs.has_own_loop.Statement.{statement}
use Rattle.putting.proofs.has_own_loop.Tie as tie

-- a groove
returns_3 : tie.Need-returns-in-Grooving
returns_3 c = c.is_before_cut.ensures ∙ sym (ap has_own_loop c.in-Grooving.is)

pub has_own_loop_spec : {M : Type 1} → statement M
has_own_loop_spec =
    tie.close
    (tie.spec
    (λ c. search rules)
    (λ c κs. search rules)
    (λ c. search rules)
    (λ c. search rules)
    (λ c κs. search rules)
    (λ c. search rules)
    (λ c. search rules)
    (λ c. search rules)
    (λ c. search rules)
    returns_3
    (λ c. search rules)
    (λ c. search rules))
