-- `cuts::open` meets its contract.
use mathlib.Core.Path.{◌≡◌, sym, ap, subst, ◌∙◌}
use Prim.Native.Nat.{◌<◌}
use native.Mathlib.Omega.{arith}
use borrow.Author.Rules.{rules}
use Rattle.depths.specs.declared.Rule.{Rule}
use Rattle.cuts.specs.declared.Cuts.{Cuts}
use Rattle.cuts.specs.declared.Cuts.TheVariants.{Even, ByDepth, ByNumber}
use Rattle.depths.specs.Depths.{cut_count, Proper}
use Rattle.depths.proofs.Kept.{some_cut}
use Rattle.cuts.proofs.Opened.{Opens, opens_even_depth, opens_even_number, opens_by_depth, opens_by_number}
use Rattle.cuts.proofs.open.Statement.{statement}
use Rattle.cuts.proofs.open.Tie as tie

some : (c : tie.After-cut_count-n) → 0 < c.cut_count-n.result
some c = let s = c in omega (arith, c.cut_count-n.ensures, some_cut s.args.rule s.args.d3 s.args.d6 s.requires.0)

-- where the rule that was matched to goes into the contract
module _ (c : tie.After-cut_count-n) {r : Rule} (is : c.args.rule ≡ r) where
  of_rule : (o : Cuts) → Opens r c.args.d3 c.args.d6 o → Opens c.args.rule c.args.d3 c.args.d6 o
  of_rule o h = subst (λ (r : Rule). Opens r c.args.d3 c.args.d6 o) (sym is) h

  proper : Proper r c.args.d3 c.args.d6
  proper = subst (λ (r : Rule). Proper r c.args.d3 c.args.d6) is c.requires.0

  counted : c.cut_count-n.result ≡ cut_count r c.args.d3 c.args.d6
  counted = c.cut_count-n.ensures ∙ ap (λ (r : Rule). cut_count r c.args.d3 c.args.d6) is

returns : tie.Need-returns-in-EvenDepth
returns c =
    let m = c in
    let n = m in
    let s = n in
    let is = m.in-EvenDepth.is in
    of_rule n.before.before is (Even c.divide.result) (opens_even_depth s.args.d3 s.args.d6 n.cut_count-n.result s.requires.1 s.requires.2 c.divide.result (proper n.before.before is) (counted n.before.before is) c.divide.ensures)

returns_2 : tie.Need-returns-in-EvenNumber
returns_2 c =
    let m = c in
    let n = m in
    let s = n in
    let is = m.in-EvenNumber.is in
    of_rule n.before.before is (Even c.divide-in-EvenNumber.result) (opens_even_number s.args.d3 s.args.d6 n.cut_count-n.result s.requires.1 s.requires.2 c.divide-in-EvenNumber.result (proper n.before.before is) (counted n.before.before is) c.divide-in-EvenNumber.ensures)

returns_3 : tie.Need-returns-in-FallingDepth
returns_3 c =
    let m = c in
    let n = m in
    let s = n in
    let is = m.in-FallingDepth.is in
    of_rule n.before.before is (ByDepth c.falling_of.result) (opens_by_depth s.args.d3 s.args.d6 n.cut_count-n.result s.requires.1 s.requires.2 (proper n.before.before is) (counted n.before.before is) c.falling_of.ensures)

returns_4 : tie.Need-returns-in-FallingNumber
returns_4 c =
    let m = c in
    let n = m in
    let s = n in
    let is = m.in-FallingNumber.is in
    of_rule n.before.before is (ByNumber c.falling_of-in-FallingNumber.result) (opens_by_number s.args.d3 s.args.d6 n.cut_count-n.result s.requires.1 s.requires.2 (proper n.before.before is) (counted n.before.before is) c.falling_of-in-FallingNumber.ensures)

pub open_spec : {M : Type 1} → statement M
open_spec =
    tie.close
    (tie.spec
    (λ c κs. search rules)
    (λ c. search rules)
    (λ c κs. some c.before)
    (λ c. search rules)
    (λ c κs. some c.before)
    (λ c. search rules)
    (λ c κs. search rules)
    (λ c. search rules)
    (λ c κs. search rules)
    returns
    returns_2
    returns_3
    returns_4)
