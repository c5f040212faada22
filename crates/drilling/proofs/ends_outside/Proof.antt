-- `drilling::ends_outside` meets its contract. The two points that it asks are enough, by the law `reach`.
use mathlib.Core.Path.{◌≡◌, sym, ◌∙◌}
use mathlib.Core.Bool.{◌||◌}
use mir.Syntax.{w32}
use mir.Val.{SFits}
use mir.Facts.{to_z-of_z}
use Rattle.settings.specs.Limits.{outside}
use Rattle.drilling.proofs.Reach.{reach}
use borrow.Author.Rules.{rules}
use Rattle.drilling.proofs.ends_outside.Statement.{statement}
use Rattle.drilling.proofs.ends_outside.Tie as tie

is_outside_requires : tie.Need-is_outside-at_start-requires
is_outside_requires c κs = search rules

is_outside_requires_2 : tie.Need-is_outside-requires
is_outside_requires_2 c κs = search rules

returns : tie.Need-returns
returns c =
    let s = c in
    let l = s.args.l in
    let b = s.args.b in
    let x : SFits w32 b.x = search rules in
    let f : SFits w32 b.start = search rules in
    let t : SFits w32 b.target = search rules in
    let first : c.is_outside-at_start.result ≡ outside l b.x b.start = c.is_outside-at_start.ensures ∙ (λ i. outside l (to_z-of_z x i) (to_z-of_z f i)) in
    let second : c.is_outside.result ≡ outside l b.x b.target = c.is_outside.ensures ∙ (λ i. outside l (to_z-of_z x i) (to_z-of_z t i)) in
    (λ i. first i || second i) ∙ sym (reach l b s.requires)

pub ends_outside_spec : {M : Type 1} → statement M
ends_outside_spec = tie.close (tie.spec is_outside_requires is_outside_requires_2 returns)
