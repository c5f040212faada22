-- `numbered::put_numbers` meets its contract.
use mathlib.Core.Path.{◌≡◌, ap, ◌∙◌}
use mathlib.Core.List.{List, ◌++◌}
use native.Mathlib.Omega.{arith}
use lib.IntN.{ℤ, pos}
use lib.ListN.{get_or, drop, set, length-set}
use mir.Syntax.{w64}
use mir.Val.{to_z, of_z}
use borrow.Author.Rules.{rules}
use Rattle.numbered.specs.Numbers.{numbers_count}
use Rattle.numbered.proofs.Lent.{seven_set, seven_is}
use Rattle.numbered.proofs.put_numbers.Statement.{statement}
use Rattle.numbered.proofs.put_numbers.Tie as tie

returns : tie.Need-returns
returns c =
    let s = c in
    let l = s.args.numbers.now in
    let w = s.args.seven in
    let e0 : to_z w64 (of_z w64 (get_or w 0 (pos 0))) ≡ get_or w 0 (pos 0) = search rules in
    let e1 : to_z w64 (of_z w64 (get_or w 1 (pos 0))) ≡ get_or w 1 (pos 0) = search rules in
    let e2 : to_z w64 (of_z w64 (get_or w 2 (pos 0))) ≡ get_or w 2 (pos 0) = search rules in
    let e3 : to_z w64 (of_z w64 (get_or w 3 (pos 0))) ≡ get_or w 3 (pos 0) = search rules in
    let e4 : to_z w64 (of_z w64 (get_or w 4 (pos 0))) ≡ get_or w 4 (pos 0) = search rules in
    let e5 : to_z w64 (of_z w64 (get_or w 5 (pos 0))) ≡ get_or w 5 (pos 0) = search rules in
    let e6 : to_z w64 (of_z w64 (get_or w 6 (pos 0))) ≡ get_or w 6 (pos 0) = search rules in
    (λ i. set (set (set (set (set (set (set l 0 (e0 i)) 1 (e1 i)) 2 (e2 i)) 3 (e3 i)) 4 (e4 i)) 5 (e5 i)) 6 (e6 i))
    ∙ seven_set l _ _ _ _ _ _ _ s.requires
    ∙ ap (λ (q : List ℤ). q ++ drop numbers_count l) (seven_is w (search rules))

pub put_numbers_spec : {M : Type 1} → statement M
put_numbers_spec =
    tie.close
    (tie.spec
    (λ c. search rules)
    (λ c. search rules)
    (λ c. search rules)
    (λ c. simp length-set (omega arith))
    (λ c. search rules)
    (λ c. simp length-set (omega arith))
    (λ c. search rules)
    (λ c. simp length-set (omega arith))
    (λ c. search rules)
    (λ c. simp length-set (omega arith))
    (λ c. search rules)
    (λ c. simp length-set (omega arith))
    (λ c. search rules)
    (λ c. simp length-set (omega arith))
    (λ c. simp length-set)
    returns)
