-- `settings::span_wrong` meets its contract.
use mathlib.Core.Path.{◌≡◌, ap, ◌∙◌}
use mathlib.Core.Bool.{not, ◌||◌}
use lib.Signed.{lt_z}
use mir.Syntax.{w32}
use mir.Facts.{to_z-of_z}
use mir.Val.{to_z, of_z}
use borrow.Author.Rules.{rules}
use Rattle.whole.specs.Position.{in_table}
use Rattle.settings.specs.Limits.{outside_span}
use Rattle.settings.specs.Wrong.{span_wrong}
use Rattle.settings.proofs.span_wrong.Statement.{statement}
use Rattle.settings.proofs.span_wrong.Tie as tie

returns : tie.Need-returns
unfolding span_wrong
returns c =
    let s = c in
    let l : to_z w32 (of_z w32 s.args.s.lowest) ≡ s.args.s.lowest = search rules in
    let h : to_z w32 (of_z w32 s.args.s.highest) ≡ s.args.s.highest = search rules in
    let a = to_z-of_z s.ranges.start in
    let x = c.in_table.ensures ∙ ap in_table l in
    let y = c.in_table-2.ensures ∙ ap in_table h in
    let z = c.in_table-3.ensures ∙ ap in_table a in
    let o = c.outside_span.ensures ∙ ap (outside_span s.args.s) a in
    λ i. (not (x i) || not (y i)) || ((not (z i) || lt_z (h i) (l i)) || o i)

pub span_wrong_spec : {M : Type 1} → statement M
span_wrong_spec =
    tie.close
    (tie.spec
    (λ c κs. search rules)
    (λ c κs. search rules)
    (λ c κs. search rules)
    (λ c κs. search rules)
    returns)
