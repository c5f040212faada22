-- `numbers::read_path` meets its contract.
use mathlib.Core.Path.{sym, ◌∙◌, ap}
use Prim.Native.Nat.{ℕ}
use native.Mathlib.Omega.{arith}
use lib.Dec.{eqb}
use lib.ListN.{drop, get_or}
use borrow.Author.Rules.{rules}
use Rattle.letters.specs.Letters.{minus_sign}
use Rattle.numbers.specs.Numbers.{unsigned_path}
use Rattle.numbers.proofs.Reading.{path_empty, sign_fits, path_signed}
use Rattle.numbers.proofs.read_path.Statement.{statement}
use Rattle.numbers.proofs.read_path.Tie as tie

returns : tie.Need-returns-then-part-eq0
returns c = sym (path_empty _ c.if-part-eq0.true)

read_unsigned_path_requires : tie.Need-read_unsigned_path-requires
read_unsigned_path_requires c κs = let s = c.args.part.now in omega (arith, c.sign_size-at.ensures, sign_fits s (omega arith))

returns_2 : tie.Need-returns
returns_2 c =
    let g = c in
    let s = g.args.part.now in
    c.read_unsigned_path.ensures ∙ ap (λ (n : ℕ). unsigned_path (eqb (get_or s 0 0) minus_sign) (drop n s)) g.sign_size-at.ensures ∙ path_signed s (omega arith)

pub read_path_spec : {M : Type 1} → statement M
read_path_spec =
    tie.close
    (tie.spec returns (λ c. search rules) (λ c κs. search rules) read_unsigned_path_requires returns_2)
