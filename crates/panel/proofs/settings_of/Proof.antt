-- `panel::settings_of` meets its contract.
use mathlib.Core.Path.{◌≡◌, ap, ◌∙◌}
use mathlib.Core.List.{List}
use lib.IntN.{ℤ, pos, nat_abs}
use lib.Signed.{lt_z}
use mir.Syntax.{w32}
use mir.Val.{to_z, of_z}
use mir.Facts.{to_z-of_z}
use borrow.Author.Rules.{rules, sfits_of}
use Rattle.panel.specs.Row.{at}
use Rattle.panel.proofs.settings_of.Statement.{statement}
use Rattle.panel.proofs.settings_of.Tie as tie

-- a number as it is read back from its bits
abbrev read : ℤ → ℤ
read v = to_z w32 (of_z w32 v)

returns : tie.Need-returns
returns c =
    let n : List ℤ = c.args.numbers.now in
    let main : read (at n 0) ≡ at n 0 = to_z-of_z (sfits_of {w = w32} c.magnitude-arg-1.given) in
    let lowest : read (at n 1) ≡ at n 1 = to_z-of_z (sfits_of {w = w32} c.magnitude-arg-2-1.given) in
    let retract : read (at n 2) ≡ at n 2 = to_z-of_z (sfits_of {w = w32} c.magnitude-arg-3-1.given) in
    let x : read (at n 3) ≡ at n 3 = to_z-of_z (sfits_of {w = w32} c.result-1.given) in
    let z : read (at n 4) ≡ at n 4 = to_z-of_z (sfits_of {w = w32} c.result-2-1.given) in
    let xlow : read (at n 5) ≡ at n 5 = to_z-of_z (sfits_of {w = w32} c.x-1.given) in
    let xhigh : read (at n 6) ≡ at n 6 = to_z-of_z (sfits_of {w = w32} c.x-2-1.given) in
    let zlow : read (at n 7) ≡ at n 7 = to_z-of_z (sfits_of {w = w32} c.z-1.given) in
    let zhigh : read (at n 8) ≡ at n 8 = to_z-of_z (sfits_of {w = w32} c.z-2-1.given) in
    let empty : read (at n 9) ≡ at n 9 = to_z-of_z (sfits_of {w = w32} c.magnitude-arg-4-1.given) in
    let points : read (at n 10) ≡ at n 10 = to_z-of_z (sfits_of {w = w32} c.result-3-1.given) in
    λ i.
    record {
      main = (c.magnitude.ensures ∙ ap nat_abs main) i;
      lowest_subroutine = (c.magnitude-2.ensures ∙ ap nat_abs lowest) i;
      retract = (c.magnitude-3.ensures ∙ ap nat_abs retract) i;
      x = x i;
      z = z i;
      limits = record { x = record { lowest = xlow i; highest = xhigh i }; z = record { lowest = zlow i; highest = zhigh i } };
      empty_cuts = (c.magnitude-4.ensures ∙ ap nat_abs empty) i;
      points = lt_z (pos 0) (points i);
    }

pub settings_of_spec : {M : Type 1} → statement M
settings_of_spec =
    tie.close
    (tie.spec
    (λ c. search rules)
    (λ c. search rules)
    (λ c. search rules)
    (λ c. search rules)
    (λ c. search rules)
    (λ c κs. search rules)
    (λ c. search rules)
    (λ c κs. search rules)
    (λ c. search rules)
    (λ c κs. search rules)
    (λ c. search rules)
    (λ c. search rules)
    (λ c. search rules)
    (λ c κs. search rules)
    (λ c. search rules)
    returns)
