-- `panel::unfit` meets its contract.
use mathlib.Core.Path.{◌≡◌, ap}
use mathlib.Core.Bool.{◌||◌}
use mathlib.Core.List.{List}
use Prim.Native.Nat.{ℕ}
use lib.IntN.{ℤ, pos}
use lib.Signed.{lt_z}
use mir.Syntax.{w32}
use mir.Val.{to_z, of_z}
use mir.Facts.{to_z-of_z}
use borrow.Author.Rules.{rules, sfits_of}
use Rattle.panel.specs.Row.{at, is_below}
use Rattle.panel.proofs.Rows.{other_length, are_there}
use Rattle.panel.proofs.unfit.Statement.{statement}
use Rattle.panel.proofs.unfit.Tie as tie

returns : tie.Need-returns-then-numbers-ne-COUNT
returns c = other_length c.args.numbers.now c.if-numbers-ne-COUNT.true

-- a number as it is read back from its bits
abbrev read : ℤ → ℤ
read v = to_z w32 (of_z w32 v)

returns_2 : tie.Need-returns
returns_2 c =
    let n : List ℤ = c.args.numbers.now in
    let below : (k : ℕ) → read (at n k) ≡ at n k → lt_z (read (at n k)) (pos 0) ≡ is_below n k = λ k e. ap (λ (z : ℤ). lt_z z (pos 0)) e in
    let points : read (at n 10) ≡ at n 10 = to_z-of_z (sfits_of {w = w32} c.points-1.given) in
    are_there n c.if-numbers-ne-COUNT.false
    (below 0 (to_z-of_z (sfits_of {w = w32} c.below-1.given)))
    (below 1 (to_z-of_z (sfits_of {w = w32} c.below-2-1.given)))
    (below 2 (to_z-of_z (sfits_of {w = w32} c.below-3-1.given)))
    (below 9 (to_z-of_z (sfits_of {w = w32} c.below-4-1.given)))
    (λ i. lt_z (points i) (pos 0) || lt_z (pos 1) (points i))

pub unfit_spec : {M : Type 1} → statement M
unfit_spec =
    tie.close
    (tie.spec
    returns
    (λ c. search rules)
    (λ c. search rules)
    (λ c. search rules)
    (λ c. search rules)
    (λ c. search rules)
    returns_2)
