-- `settings::outside_span` meets its contract.
use borrow.Author.Rules.{rules}
use mathlib.Core.Path.{◌≡◌}
use mathlib.Core.Bool.{◌||◌}
use lib.Signed.{lt_z}
use mir.Syntax.{w32}
use mir.Val.{to_z, of_z}
use mir.Facts.{to_z-of_z}
use Rattle.settings.specs.Limits.{outside_span}
use Rattle.settings.proofs.outside_span.Statement.{statement}
use Rattle.settings.proofs.outside_span.Tie as tie

same_lowest : (c : tie.After-struct_told-1) → to_z w32 (of_z w32 c.args.s.lowest) ≡ c.args.s.lowest
same_lowest c = search rules

same_highest : (c : tie.After-struct_told-2-1) → to_z w32 (of_z w32 c.args.s.highest) ≡ c.args.s.highest
same_highest c = search rules

returns : tie.Need-returns
unfolding outside_span
returns c =
    let s = c in
    let same : to_z w32 (of_z w32 s.args.v) ≡ s.args.v = to_z-of_z s.ranges.v in
    λ i. lt_z (same i) (same_lowest c.before.before i) || lt_z (same_highest c i) (same i)

pub outside_span_spec : {M : Type 1} → statement M
outside_span_spec = tie.close (tie.spec returns)
