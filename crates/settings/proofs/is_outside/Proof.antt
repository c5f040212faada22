-- `settings::is_outside` meets its contract.
use borrow.Author.Rules.{rules}
use mathlib.Core.Path.{◌∙◌}
use mathlib.Core.Bool.{◌||◌}
use mir.Facts.{to_z-of_z}
use Rattle.settings.specs.Limits.{outside_span, outside}
use Rattle.settings.proofs.is_outside.Statement.{statement}
use Rattle.settings.proofs.is_outside.Tie as tie

outside_span_requires : tie.Need-outside_span-requires
outside_span_requires c κs = search rules

outside_span_requires_2 : tie.Need-outside_span-requires-2
outside_span_requires_2 c κs = search rules

returns : tie.Need-returns
unfolding outside
returns c =
    let s = c in
    (λ i. c.outside_span.ensures i || c.outside_span-2.ensures i)
    ∙ λ i. outside_span s.args.l.x (to_z-of_z s.ranges.x i) || outside_span s.args.l.z (to_z-of_z s.ranges.z i)

pub is_outside_spec : {M : Type 1} → statement M
is_outside_spec = tie.close (tie.spec outside_span_requires outside_span_requires_2 returns)
