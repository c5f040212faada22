-- `holding::take_record` meets its contract.
use mathlib.Core.Path.{sym, ◌∙◌}
use borrow.Author.Rules.{rules}
use Rattle.holding.proofs.Handing.{taken_last, taken_more}
use Rattle.holding.proofs.take_record.Statement.{statement}
use Rattle.holding.proofs.take_record.Tie as tie

returns : tie.Need-returns-then-is_over
returns c =
    let o = c in
    let n = o in
    let a = c.args in
    taken_last a.c a.origin n.next-handed.result.record n.next-handed.result.rest n.next-handed.ensures (sym o.is_over.ensures ∙ c.if-is_over.true)

returns_2 : tie.Need-returns
returns_2 c =
    let o = c in
    let n = o in
    let a = c.args in
    taken_more a.c a.origin n.next-handed.result.record n.next-handed.result.rest n.next-handed.ensures (sym o.is_over.ensures ∙ c.if-is_over.false)

pub take_record_spec : {M : Type 1} → statement M
take_record_spec = tie.close (tie.spec (λ c κs. search rules) (λ c κs. search rules) returns returns_2)
