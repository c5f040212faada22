-- `holding::held` meets its contract.
use mathlib.Core.Path.{sym, ◌∙◌}
use borrow.Author.Rules.{rules}
use Rattle.holding.proofs.Handing.{held_none, held_nothing, held_some}
use Rattle.holding.proofs.held.Statement.{statement}
use Rattle.holding.proofs.held.Tie as tie

returns : tie.Need-returns-then-is_over
returns c =
    let o = c in
    let m = o in
    held_none m.args.hand m.in-Block.c m.in-Block.field-1 m.in-Block.is (sym o.is_over.ensures ∙ c.if-is_over.true)

returns_2 : tie.Need-returns-in-Nothing
returns_2 c = let s = c in held_nothing s.args.hand c.in-Nothing.is s.requires

returns_3 : tie.Need-returns-else-is_over
returns_3 c =
    let o = c in
    let m = o in
    held_some m.args.hand m.in-Block.c m.in-Block.field-1 m.in-Block.is m.requires (sym o.is_over.ensures ∙ c.if-is_over.false)

pub held_spec : {M : Type 1} → statement M
held_spec = tie.close (tie.spec (λ c. search rules) (λ c. search rules) (λ c κs. search rules) returns returns_2 returns_3)
