-- `decimal::put_number` meets its contract.
use mathlib.Core.Path.{refl}
use mathlib.Core.List.{[], ◌∷◌}
use native.Mathlib.Omega.{arith}
use borrow.Author.Rules.{rules}
use Rattle.decimal.specs.Decimal.{decimal}
use Rattle.decimal.proofs.Writing.{two_first, two_second, two}
use Rattle.decimal.proofs.put_number.Statement.{statement}
use Rattle.decimal.proofs.put_number.Tie as tie

put_decimal_requires : tie.Need-put_decimal-next-requires
put_decimal_requires c κs = let s = c in two_first s.args.out.now s.args.at (decimal s.args.n) (s.args.behind ∷ []) refl s.requires

put_byte_requires : tie.Need-put_byte-requires
put_byte_requires c κs =
    let p = c in
    let s = p in
    omega (arith, two_second s.args.out.now s.args.at (decimal s.args.n) (s.args.behind ∷ []) refl s.requires p.put_decimal-next.ensures)

same_length : tie.Need-shape_of-out
same_length c = search rules

returns : tie.Need-returns
returns c =
    let q = c in
    let p = q in
    let s = p in
    two s.args.out.now s.args.at (decimal s.args.n) (s.args.behind ∷ []) refl s.requires p.put_decimal-next.ensures q.put_byte.ensures

pub put_number_spec : {M : Type 1} → statement M
put_number_spec = tie.close (tie.spec put_decimal_requires put_byte_requires same_length returns)
