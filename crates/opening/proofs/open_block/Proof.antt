-- `opening::open_block` meets its contract.
use mathlib.Core.Path.{◌∙◌}
use borrow.Author.Rules.{rules}
use Rattle.opening.proofs.Opening.{planned, all_due}
use Rattle.opening.proofs.open_block.Statement.{statement}
use Rattle.opening.proofs.open_block.Tie as tie

first_due_requires : tie.Need-first_due-due-requires
first_due_requires c κs = planned c.plan_of-plan.ensures

returns : tie.Need-returns
returns c =
    let h = c in
    let is = h.plan_of-plan.ensures in
    (c.first_due-due.ensures.same ∙ all_due is h.has.ensures, record { plan = planned is; due = c.first_due-due.ensures.sound })

pub open_block_spec : {M : Type 1} → statement M
open_block_spec = tie.close (tie.spec (λ c κs. search rules) (λ c κs. search rules) first_due_requires returns)
