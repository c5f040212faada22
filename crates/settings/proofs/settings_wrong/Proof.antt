-- `settings::settings_wrong` meets its contract.
use mathlib.Core.Path.{◌≡◌, ap, ◌∙◌}
use mathlib.Core.Bool.{◌||◌}
use lib.Dec.{ltb}
use mir.Syntax.{w32}
use mir.Val.{to_z, of_z}
use borrow.Author.Rules.{rules}
use Rattle.settings.specs.Wrong.{greatest_retract, greatest_empty_cuts, span_wrong, settings_wrong}
use Rattle.settings.proofs.settings_wrong.Statement.{statement}
use Rattle.settings.proofs.settings_wrong.Tie as tie

returns : tie.Need-returns
unfolding settings_wrong
returns c =
    let s = c in
    let x : to_z w32 (of_z w32 s.args.set.x) ≡ s.args.set.x = search rules in
    let z : to_z w32 (of_z w32 s.args.set.z) ≡ s.args.set.z = search rules in
    let t = c.table_wrong.ensures in
    let a = c.span_wrong.ensures ∙ ap (span_wrong s.args.set.limits.x) x in
    let b = c.span_wrong-2.ensures ∙ ap (span_wrong s.args.set.limits.z) z in
    let n = c.numbers_wrong.ensures in
    λ i. ((t i || ltb greatest_retract s.args.set.retract) || ltb greatest_empty_cuts s.args.set.empty_cuts) || ((a i || b i) || n i)

pub settings_wrong_spec : {M : Type 1} → statement M
settings_wrong_spec =
    tie.close
    (tie.spec
    (λ c κs. search rules)
    (λ c κs. search rules)
    (λ c κs. search rules)
    (λ c κs. search rules)
    returns)
