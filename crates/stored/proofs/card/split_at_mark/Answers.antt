use Rattle.std.proofs.Common.{subst, sym}
use Rattle.stored.specs.Texts.{EndOf}
use Rattle.stored.proofs.Parts.{end_drop, part_before}
use Rattle.stored.proofs.card.split_at_mark.Goals as goal

pub returns-then-same-clause-parts : goal.returns-then-same-clause-parts
returns-then-same-clause-parts c =
    part_before c.args.page.now c.loop-rest.rest.now c.split_line.result.1.now c.loop-rest.invariant
    (subst (λ s. EndOf c.loop-rest.rest.now s) (sym c.split_line.ensures.behind) (end_drop _ c.loop-rest.rest.now))
