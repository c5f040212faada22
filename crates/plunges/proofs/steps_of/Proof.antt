-- `plunges::steps_of` meets its contract.
use mathlib.Core.Path.{◌≡◌, sym, ap, ◌∙◌}
use Prim.Native.Nat.{ℕ, ◌-◌, ◌<◌}
use native.Mathlib.Omega.{arith}
use borrow.Author.Rules.{rules}
use Rattle.division.specs.Division.{pieces}
use Rattle.grooving.specs.Grooving.{rest}
use Rattle.grooving.proofs.Asked.{asked}
use Rattle.grooving.proofs.Rows.{no_steps, some_steps, steps_are}
use Rattle.plunges.proofs.steps_of.Statement.{statement}
use Rattle.plunges.proofs.steps_of.Tie as tie

sub_rest : tie.Need-overflow_sub-rest
sub_rest c = let l = c in let s = l in omega (arith, l.length_of.ensures, (asked s.args.g s.requires).wide)

-- what the tool leaves of the width
the_rest : (c : tie.After-length_of) → let g = c.args.g in c.length_of.result - g.tool ≡ rest g
the_rest c = ap (λ (n : ℕ). n - c.args.g.tool) c.length_of.ensures

returns : tie.Need-returns-then-rest-eq0
returns c =
    let i = c in
    let l = i in
    let s = l in
    c.divide_nothing.ensures ∙ sym (no_steps s.args.g (sym (the_rest l.before.before.before) ∙ i.if-rest-eq0.true)).1

some_rest : (c : tie.After-step_count-n) → 0 < rest c.args.g
some_rest c = omega (arith, the_rest c.before.before.before, c.if-rest-eq0.false)

divide_requires : tie.Need-divide-requires
divide_requires c κs =
    let l = c in
    let s = l in
    omega (arith, c.step_count-n.ensures, some_steps s.args.g s.requires (some_rest c))

returns_2 : tie.Need-returns
returns_2 c =
    let n = c in
    let l = n in
    let g = l.args.g in
    c.divide.ensures ∙ (λ i. pieces (the_rest l.before.before.before.before i) (n.step_count-n.ensures i)) ∙ sym (steps_are g (some_rest n.before))

pub steps_of_spec : {M : Type 1} → statement M
steps_of_spec =
    tie.close
    (tie.spec (λ c κs. search rules) sub_rest (λ c κs. search rules) returns (λ c κs. search rules) divide_requires returns_2)
