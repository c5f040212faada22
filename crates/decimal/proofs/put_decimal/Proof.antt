-- `decimal::put_decimal` meets its contract.
use mathlib.Core.Path.{sym, ap}
use native.Mathlib.Omega.{arith}
use borrow.Author.Rules.{rules}
use lib.ListN.{length}
use Rattle.decimal.proofs.Digits.{decimal_zero, decimal_more}
use Rattle.decimal.proofs.Writing.{wrote_as}
use Rattle.decimal.proofs.put_decimal.Statement.{statement}
use Rattle.decimal.proofs.put_decimal.Tie as tie

put_byte_requires : tie.Need-put_byte-requires
put_byte_requires c κs = let s = c in omega (arith, ap length (decimal_zero s.args.n c.if-n-eq0.true))

returns : tie.Need-returns-then-n-eq0
returns c = let b = c in wrote_as (sym (decimal_zero _ b.if-n-eq0.true)) b.put_byte.ensures

put_digits_requires : tie.Need-put_digits-requires
put_digits_requires c κs = let s = c in omega (arith, ap length (decimal_more s.args.n (omega arith)))

returns_2 : tie.Need-returns
returns_2 c = let d = c in wrote_as (sym (decimal_more _ (omega arith))) d.put_digits.ensures

pub put_decimal_spec : {M : Type 1} → statement M
put_decimal_spec =
    tie.close
    (tie.spec put_byte_requires (λ c. search rules) returns put_digits_requires (λ c. search rules) returns_2)
