-- `handing::next` meets its contract.
use mathlib.Core.Path.{sym, ◌∙◌}
use borrow.Author.Rules.{rules}
use Rattle.handing.proofs.Cursors.{stop_next}
use Rattle.handing.proofs.next.Statement.{statement}
use Rattle.handing.proofs.next.Tie as tie

returns : tie.Need-returns-then-is_cycle_over
returns c =
    let t = c in
    let s = t in
    stop_next s.args.p s.args.due s.requires.0 (sym t.is_cycle_over.ensures ∙ t.if-is_cycle_over.true) s.requires.1 c.single.ensures

pub next_spec : {M : Type 1} → statement M
next_spec = tie.close (tie.spec (λ c κs. search rules) (λ c κs. search rules) returns (λ c κs. search rules) (λ c. search rules))
