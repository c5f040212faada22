-- `jumping::to_by` meets its contract.
use mathlib.Core.Path.{◌≡◌, sym, ap, ◌∙◌}
use lib.IntN.{ℤ, nat_abs}
use mir.Syntax.{w32}
use mir.Val.{to_z, of_z}
use borrow.Author.Rules.{rules}
use Rattle.jumping.specs.declared.Jumping.TheVariants.{To}
use Rattle.jumping.specs.Jumping.{to_by}
use Rattle.jumping.proofs.to_by.Statement.{statement}
use Rattle.jumping.proofs.to_by.Tie as tie

returns : tie.Need-returns-in-Value
returns c =
    let e : to_z w32 (of_z w32 c.in-Value.value) ≡ c.in-Value.value = search rules in
    ap To c.magnitude.ensures ∙ ap (λ (v : ℤ). To (nat_abs v)) e ∙ sym (ap to_by c.in-Value.is)

pub to_by_spec : {M : Type 1} → statement M
to_by_spec = tie.close (tie.spec (λ c. search rules) (λ c κs. search rules) (λ c. search rules) returns (λ c. search rules))
