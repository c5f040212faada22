-- `returning::entry_of` meets its contract.
use mathlib.Core.Path.{ap}
use borrow.Author.Rules.{rules}
use Rattle.tape.specs.declared.line.Line.{Line}
use Rattle.paused.specs.of_resuming.Remains.{frame_at}
use Rattle.returning.proofs.entry_of.Statement.{statement}
use Rattle.returning.proofs.entry_of.Tie as tie

returns : tie.Need-returns
returns c = let a = c.args in ap (λ (l : Line). frame_at a.program a.calls_left l.after) c.line_at-line.ensures.0

pub entry_of_spec : {M : Type 1} → statement M
entry_of_spec = tie.close (tie.spec (λ c κs. search rules) returns)
