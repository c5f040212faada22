-- `targets::pair_of` meets its contract.
use borrow.Author.Rules.{rules, sfits_of}
use borrow.Author.Tests.{ne_eqb}
use mir.Syntax.{w32}
use mir.Facts.{to_z-of_z}
use Rattle.targets.specs.Target.{pair_of}
use Rattle.targets.proofs.pair_of.Statement.{statement}
use Rattle.targets.proofs.pair_of.Tie as tie

returns : tie.Need-returns-then-i-eq0
unfolding pair_of
returns c = rw c.if-i-eq0.true

returns_2 : tie.Need-returns
unfolding pair_of
returns_2 c =
    let s = c in
    let x = to_z-of_z (sfits_of {w = w32} c.result-1.given) in
    let z = to_z-of_z (sfits_of {w = w32} c.result-2-1.given) in
    rw (ne_eqb s.args.i 0 c.if-i-eq0.false) (λ i. record { x = x i; z = z i })

pub pair_of_spec : {M : Type 1} → statement M
pair_of_spec =
    tie.close
    (tie.spec
    returns
    (λ c. search rules)
    (λ c. search rules)
    (λ c. search rules)
    (λ c. search rules)
    (λ c. search rules)
    (λ c. search rules)
    (λ c. search rules)
    returns_2)
