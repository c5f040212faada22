-- What the fold finds is whether some number of the table is out of range.
use Rattle.std.proofs.Common.{rules, tests, ◌≡◌, refl, ◌∙◌, Bool, true, false, not, ◌||◌, List, [], ◌∷◌, ℤ, fold}
use Rattle.std.proofs.lemmas.Iterator.{YieldsList-from_slice}
use Rattle.std.proofs.lemmas.Iterator.Consumers.{fold_from_yields_List}
use borrow.Author.Tests.{eq-eqb, ne_eqb}
use Rattle.whole.specs.Position.{in_table}
use Rattle.settings.specs.Wrong.{some_out, table_wrong}
use Rattle.settings.proofs.table_wrong.Goals as goal

-- what was found before, or a number that is out of range
abbrev or_out : Bool → ℤ → Bool
or_out wrong z = wrong || not (in_table z)

out_folded : (t : List ℤ) (wrong : Bool) → fold or_out wrong t ≡ (wrong || some_out t)
unfolding some_out
out_folded [] true = refl
out_folded [] false = refl
out_folded (z ∷ zs) true = out_folded zs true
out_folded (z ∷ zs) false = out_folded zs (not (in_table z))

pub returns-then-table-ne-TABLE_SIZE : goal.returns-then-table-ne-TABLE_SIZE
unfolding table_wrong
returns-then-table-ne-TABLE_SIZE c = rw (ne_eqb _ _ c.if-table-ne-TABLE_SIZE.true)

-- that what was tested is each number is read off by `search`, so that a test that is another leaves it without a proof
pub returns : goal.returns
unfolding table_wrong
returns c =
    let t = c.args.table.now in
    let folded = fold_from_yields_List _ or_out _ _ c.fold.ensures.ran (YieldsList-from_slice t cc) (λ w x b q k. search (rules, tests)) in
    rw (eq-eqb _ _ c.if-table-ne-TABLE_SIZE.false) (folded ∙ out_folded t false)
