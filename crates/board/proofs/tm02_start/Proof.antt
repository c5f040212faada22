-- `board::tm02_start` meets its contract.
use mathlib.Core.Path.{sym, ap}
use borrow.Author.Rules.{rules}
use Rattle.board.specs.Asked.{start_number}
use Rattle.board.proofs.tm02_start.Statement.{statement}
use Rattle.board.proofs.tm02_start.Tie as tie

same_length : tie.Need-shape_of-places-then-start
same_length c = search rules

returns : tie.Need-returns-then-start
returns c = let k = c.start in record { started = k.result; is = sym (ap start_number c.if-start.true); meets = k.ensures; same = search rules }

returns_2 : tie.Need-returns
returns_2 c = let k = c.start in record { started = k.result; is = sym (ap start_number c.if-start.false); meets = k.ensures; same = search rules }

pub tm02_start_spec : {M : Type 1} → statement M
tm02_start_spec = tie.close (tie.spec (λ c κs. search rules) same_length (λ c. search rules) returns (λ c. search rules) (λ c. search rules) returns_2)
