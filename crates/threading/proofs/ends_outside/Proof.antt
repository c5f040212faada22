-- `threading::ends_outside` meets its contract.
-- The two points that it asks are enough, by the law `reach`.
use mathlib.Core.Path.{sym, ◌∙◌}
use mathlib.Core.Bool.{◌||◌}
use mir.Syntax.{w32}
use mir.Facts.{to_z-of_z}
use borrow.Author.Rules.{rules, sfits_of}
use Rattle.axes.specs.Limits.{outside_to}
use Rattle.threading.proofs.Counts.{Stands}
use Rattle.threading.proofs.Reach.{reach}
use Rattle.threading.proofs.ends_outside.Statement.{statement}
use Rattle.threading.proofs.ends_outside.Tie as tie

-- asked at the function's entry, where `search` still reaches them
infeed_stands : (s : tie.Start) → Stands s.args.t.infeed
infeed_stands s = record { start = search rules; target = search rules }

path_stands : (s : tie.Start) → Stands s.args.t.path
path_stands s = record { start = search rules; target = search rules }

returns : tie.Need-returns
returns c =
    let b = c in
    let a = b in
    let s = a in
    let t = s.args.t in
    let l = s.args.l in
    let p = path_stands s.before.before.before.before.before.before.before.before in
    (λ i. (a.is_outside_to-at_start.ensures ∙ (λ j. outside_to l t.facing (to_z-of_z (infeed_stands s.before.before.before.before.before.before.before.before).start j) (to_z-of_z p.start j))) i
    || (c.is_outside_to.ensures ∙ (λ j. outside_to l t.facing ((to_z-of_z (sfits_of {w = w32} b.bottom_of-deepest.type_inv) ∙ b.bottom_of-deepest.ensures) j) (to_z-of_z p.target j))) i)
    ∙ sym (reach l t s.requires.1)

pub ends_outside_spec : {M : Type 1} → statement M
ends_outside_spec =
    tie.close (tie.spec (λ c κs. search rules) (λ c κs. search rules) (λ c κs. search rules) returns)
