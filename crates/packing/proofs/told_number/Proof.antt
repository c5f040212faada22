-- `packing::told_number` meets its contract.
use mathlib.Core.Path.{sym, ap, subst, ◌∙◌}
use Prim.Native.Nat.{ℕ, ◌+◌}
use native.Mathlib.Omega.{arith}
use borrow.Author.Rules.{rules}
use Rattle.packing.specs.Packing.{over, told_number, FitsTold, Bounded}
use Rattle.packing.proofs.told_number.Statement.{statement}
use Rattle.packing.proofs.told_number.Tie as tie

packed_answer_requires : tie.Need-packed_answer-requires
packed_answer_requires c κs = subst FitsTold c.in-Over.is c.requires

add_result : tie.Need-overflow_add-result
add_result c = omega (arith, c.packed_answer.ensures.0.rest)

returns : tie.Need-returns-in-Move
returns c = let e = c.in-Move.is in (ap told_number (sym e), subst Bounded (sym e) tt)

returns_2 : tie.Need-returns-in-Over
returns_2 c =
    let e = c.in-Over.is in
    let p = c.packed_answer.ensures in
    (ap (λ (n : ℕ). over + n) p.1 ∙ ap told_number (sym e), subst Bounded (sym e) (omega (arith, p.1, p.0.rest)))

returns_3 : tie.Need-returns-in-Refused
returns_3 c = let e = c.in-Refused.is in (ap told_number (sym e), subst Bounded (sym e) tt)

pub told_number_spec : {M : Type 1} → statement M
told_number_spec = tie.close (tie.spec (λ c. search rules) (λ c. search rules) packed_answer_requires add_result (λ c. search rules) returns returns_2 returns_3)
