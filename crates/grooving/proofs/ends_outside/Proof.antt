-- `grooving::ends_outside` meets its contract.
-- The two points that it asks are enough, by the law `reach`.
use borrow.Author.Rules.{rules, sfits_of}
use mathlib.Core.Path.{◌≡◌, sym, ◌∙◌}
use mathlib.Core.Bool.{◌||◌}
use mir.Syntax.{w32}
use mir.Val.{SFits, to_z, of_z}
use mir.Facts.{to_z-of_z}
use Rattle.axes.specs.Limits.{outside_to}
use Rattle.grooving.specs.Grooving.{last_width}
use Rattle.grooving.proofs.Reach.{reach}
use Rattle.grooving.proofs.ends_outside.Statement.{statement}
use Rattle.grooving.proofs.ends_outside.Tie as tie

returns : tie.Need-returns
returns c =
    let w = c in
    let o = w in
    let s = o in
    let l = s.args.l in
    let g = s.args.g in
    let b = g.facing in
    let ds : SFits w32 g.depth.start = search rules in
    let dt : SFits w32 g.depth.target = search rules in
    let ws : SFits w32 g.width.start = search rules in
    let last : to_z w32 (of_z w32 w.last_width-last.result) ≡ last_width g = to_z-of_z (sfits_of {w = w32} w.last_width-last.type_inv) ∙ w.last_width-last.ensures in
    let first : o.is_outside_to-at_start.result ≡ outside_to l b g.depth.start g.width.start = o.is_outside_to-at_start.ensures ∙ (λ i. outside_to l b (to_z-of_z ds i) (to_z-of_z ws i)) in
    let second : c.is_outside_to.result ≡ outside_to l b g.depth.target (last_width g) = c.is_outside_to.ensures ∙ (λ i. outside_to l b (to_z-of_z dt i) (last i)) in
    (λ i. first i || second i) ∙ sym (reach l g s.requires)

pub ends_outside_spec : {M : Type 1} → statement M
ends_outside_spec =
    tie.close
    (tie.spec (λ c κs. search rules) (λ c κs. search rules) (λ c κs. search rules) returns)
