-- `requests::times_of` meets its contract.
use mathlib.Core.Path.{refl}
use Prim.Native.Nat.{◌%◌}
use borrow.Author.Tests.{eq-eqb, ne_eqb}
use Rattle.requests.specs.Request.{times_of}
use Rattle.state.proofs.Settling.{given, stays}
use Rattle.requests.proofs.times_of.Statement.{statement}
use Rattle.requests.proofs.times_of.Tie as tie

returns : tie.Need-returns-then-n-eq0
unfolding times_of
returns c = given (c.args.l % 100) refl (eq-eqb (c.args.l % 100) 0 c.if-n-eq0.true) refl

returns_2 : tie.Need-returns
unfolding times_of
returns_2 c = stays 1 (c.args.l % 100) refl (ne_eqb (c.args.l % 100) 0 c.if-n-eq0.false)

pub times_of_spec : {M : Type 1} → statement M
times_of_spec = tie.close (tie.spec returns returns_2)
