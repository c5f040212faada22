-- `turning::ends_outside` meets its contract.
-- The two points that it asks are enough, by the law `reach`.
use borrow.Author.Rules.{rules, sfits_of}
use mathlib.Core.Path.{◌≡◌, sym, ◌∙◌}
use mathlib.Core.Bool.{◌||◌}
use mir.Syntax.{w32}
use mir.Val.{SFits, to_z, of_z}
use mir.Facts.{to_z-of_z}
use Rattle.axes.specs.Axis.{allowance_line}
use Rattle.axes.specs.Limits.{outside_to}
use Rattle.turning.proofs.Asked.{long_enough}
use Rattle.turning.proofs.Reach.{reach}
use Rattle.turning.proofs.ends_outside.Statement.{statement}
use Rattle.turning.proofs.ends_outside.Tie as tie

last_line_requires : tie.Need-last_line-last-requires
last_line_requires c κs = let s = c in (long_enough s.args.c s.requires).0

line_of_requires : tie.Need-line_of-end-requires
line_of_requires c κs = let s = c in (long_enough s.args.c s.requires).1

returns : tie.Need-returns
returns c =
    let e = c in
    let d = e in
    let o = d in
    let s = o in
    let l = s.args.l in
    let b = s.args.c.facing in
    let f : SFits w32 s.args.c.infeed.start = search rules in
    let g : SFits w32 s.args.c.path.start = search rules in
    let last : to_z w32 (of_z w32 d.last_line-last.result) ≡ allowance_line s.args.c.infeed = to_z-of_z (sfits_of {w = w32} d.last_line-last.type_inv) ∙ d.last_line-last.ensures in
    let end : to_z w32 (of_z w32 e.line_of-end.result) ≡ allowance_line s.args.c.path = to_z-of_z (sfits_of {w = w32} e.line_of-end.type_inv) ∙ e.line_of-end.ensures in
    let first : o.is_outside_to-at_start.result ≡ outside_to l b s.args.c.infeed.start s.args.c.path.start = o.is_outside_to-at_start.ensures ∙ (λ i. outside_to l b (to_z-of_z f i) (to_z-of_z g i)) in
    let second : c.is_outside_to.result ≡ outside_to l b (allowance_line s.args.c.infeed) (allowance_line s.args.c.path) = c.is_outside_to.ensures ∙ (λ i. outside_to l b (last i) (end i)) in
    (λ i. first i || second i) ∙ sym (reach l s.args.c (long_enough s.args.c s.requires).0)

pub ends_outside_spec : {M : Type 1} → statement M
ends_outside_spec =
    tie.close
    (tie.spec
    (λ c κs. search rules)
    last_line_requires
    line_of_requires
    (λ c κs. search rules)
    returns)
