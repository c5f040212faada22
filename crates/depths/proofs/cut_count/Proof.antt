-- `depths::cut_count` meets its contract.
use mathlib.Core.Path.{◌≡◌, sym, ap, ◌∙◌}
use Prim.Native.Nat.{ℕ}
use borrow.Author.Rules.{rules}
use Rattle.depths.specs.declared.Rule.{Rule}
use Rattle.depths.specs.Depths.{cut_count}
use Rattle.depths.proofs.cut_count.Statement.{statement}
use Rattle.depths.proofs.cut_count.Tie as tie

-- where the rule that was matched to goes into the contract
of_rule : (s : tie.Start) {r : Rule} {n : ℕ} → s.args.rule ≡ r → n ≡ cut_count r s.args.d3 s.args.d6 → n ≡ cut_count s.args.rule s.args.d3 s.args.d6
of_rule s e h = h ∙ ap (λ (r : Rule). cut_count r s.args.d3 s.args.d6) (sym e)

returns : tie.Need-returns-in-EvenDepth
unfolding cut_count
returns c = of_rule c.before.before c.in-EvenDepth.is c.piece_count.ensures

returns_2 : tie.Need-returns-in-EvenNumber
unfolding cut_count
returns_2 c = ap (λ (r : Rule). cut_count r c.args.d3 c.args.d6) (sym c.in-EvenNumber.is)

returns_3 : tie.Need-returns-in-FallingDepth
returns_3 c = of_rule c.before.before c.in-FallingDepth.is c.squares_in.ensures

returns_4 : tie.Need-returns-in-FallingNumber
unfolding cut_count
returns_4 c = ap (λ (r : Rule). cut_count r c.args.d3 c.args.d6) (sym c.in-FallingNumber.is)

pub cut_count_spec : {M : Type 1} → statement M
cut_count_spec =
    tie.close
    (tie.spec
    (λ c. search rules)
    (λ c κs. search rules)
    (λ c. search rules)
    (λ c. search rules)
    (λ c κs. search rules)
    (λ c. search rules)
    returns
    returns_2
    returns_3
    returns_4)
