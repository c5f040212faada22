-- `targets::offset_of` meets its contract.
use borrow.Author.Rules.{rules}
use mathlib.Core.Path.{◌≡◌, ap, sym, ◌∙◌, subst}
use mathlib.Core.List.{List}
use Prim.Native.Nat.{ℕ, ◌≤◌}
use lib.IntN.{ℤ, ◌+ℤ◌}
use Rattle.state.specs.declared.State.{State}
use Rattle.targets.specs.declared.Pair.{Pair}
use Rattle.targets.specs.Target.{pair_of, correction_pair, offset_of}
use Rattle.targets.proofs.Sending.{PairIn, pair_in, correction_le, two_need, three_need, three_is}
use Rattle.targets.proofs.offset_of.Statement.{statement}
use Rattle.targets.proofs.offset_of.Tie as tie

pair_of_requires_3 : tie.Need-pair_of-tool-requires
pair_of_requires_3 c κs =
    let s = c in
    (s.requires.0, subst (λ (n : ℕ). n ≤ 104) (sym c.correction_pair.ensures) (correction_le s.args.s.correction s.requires.1.correction))

-- the three pairs, and that they are numbers of the table
record Three (table : List ℤ) (s : State) (a b t : Pair) : Type 0 where
  first : a ≡ pair_of table s.shift_group3
  second : b ≡ pair_of table s.shift_group5
  tool : t ≡ pair_of table (correction_pair s.correction)
  first_in : PairIn a
  second_in : PairIn b
  tool_in : PairIn t

three : (c : tie.After-pair_of-tool) → Three c.args.table.now c.args.s
    c.pair_of-first.result c.pair_of-second.result c.pair_of-tool.result
three c =
    let s = c in
    let table = s.args.table.now in
    let f = c.pair_of-first.ensures in
    let g = c.pair_of-second.ensures in
    let h = c.pair_of-tool.ensures ∙ ap (pair_of table) c.correction_pair.ensures in
    record {
      first = f;
      second = g;
      tool = h;
      first_in = subst PairIn (sym f) (pair_in table s.requires.0 s.args.s.shift_group3);
      second_in = subst PairIn (sym g) (pair_in table s.requires.0 s.args.s.shift_group5);
      tool_in = subst PairIn (sym h) (pair_in table s.requires.0 (correction_pair s.args.s.correction));
    }

add_x : tie.Need-overflow_add-x
add_x c = let n = three c.before.before.before.before in two_need _ _ n.first_in.x n.second_in.x

add_x_2 : tie.Need-overflow_add-x-2
add_x_2 c = let n = three c.before.before.before.before.before.before in three_need _ _ n.first_in.x n.second_in.x _ n.tool_in.x

add_z : tie.Need-overflow_add-z
add_z c = let n = three c.before.before.before.before.before.before.before.before.before.before in two_need _ _ n.first_in.z n.second_in.z

add_z_2 : tie.Need-overflow_add-z-2
add_z_2 c =
    let n = three c.before.before.before.before.before.before.before.before.before.before.before.before in
    three_need _ _ n.first_in.z n.second_in.z _ n.tool_in.z

returns : tie.Need-returns
unfolding offset_of
returns c =
    let n = three c.before.before.before.before.before.before.before.before.before.before.before.before in
    let x = three_is _ _ n.first_in.x n.second_in.x _ n.tool_in.x in
    let z = three_is _ _ n.first_in.z n.second_in.z _ n.tool_in.z in
    (λ i. record { x = x i; z = z i })
    ∙ (λ i. record { x = (n.first i).x +ℤ (n.second i).x +ℤ (n.tool i).x; z = (n.first i).z +ℤ (n.second i).z +ℤ (n.tool i).z })

pub offset_of_spec : {M : Type 1} → statement M
offset_of_spec =
    tie.close
    (tie.spec
    (λ c. search rules)
    (λ c κs. search rules)
    (λ c. search rules)
    (λ c κs. search rules)
    (λ c κs. search rules)
    pair_of_requires_3
    add_x
    add_x_2
    add_z
    add_z_2
    returns)
