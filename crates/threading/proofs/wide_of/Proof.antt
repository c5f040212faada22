-- `threading::wide_of` meets its contract.
use mathlib.Core.Path.{refl}
use Prim.Native.Nat.{◌*◌}
use native.Mathlib.Omega.{arith}
use borrow.Author.Rules.{rules}
use Rattle.axes.proofs.Axes.{picked}
use Rattle.threading.specs.Threading.{wide}
use Rattle.threading.proofs.wide_of.Statement.{statement}
use Rattle.threading.proofs.wide_of.Tie as tie

returns : tie.Need-returns-then-facing
unfolding wide
returns c = let s = c in picked s.args.n (2 * s.args.n) c.if-facing.true refl

returns_2 : tie.Need-returns
unfolding wide
returns_2 c = let s = c in picked s.args.n (2 * s.args.n) c.if-facing.false (omega arith)

pub wide_of_spec : {M : Type 1} → statement M
wide_of_spec = tie.close (tie.spec returns (λ c. search rules) returns_2)
