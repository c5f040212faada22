-- `plunges::open` meets its contract.
use mathlib.Core.Path.{◌≡◌, sym, subst}
use lib.Dec.{ltb}
use mir.Facts.{to_z-of_z}
use borrow.Author.Rules.{rules}
use Rattle.plunges.specs.declared.Cursor.{Cursor}
use Rattle.plunges.specs.declared.Stage.TheVariants.{Cut}
use Rattle.grooving.specs.Grooving.{grooving}
use Rattle.plunges.specs.Cursor.{rest_of, Sound}
use Rattle.grooving.proofs.Counts.{Stands}
use Rattle.plunges.proofs.Cursors.{opens}
use Rattle.plunges.proofs.open.Statement.{statement}
use Rattle.plunges.proofs.open.Tie as tie

-- asked at the function's entry, where `search` still reaches them
depth_stands : (s : tie.Start) → Stands s.args.g.depth
depth_stands s = record { start = search rules; target = search rules }

width_stands : (s : tie.Start) → Stands s.args.g.width
width_stands s = record { start = search rules; target = search rules }

returns : tie.Need-returns
returns c =
    let q = c in
    let p = q in
    let s = p in
    let g = s.args.g in
    subst (λ (o : Cursor). (rest_of o ≡ grooving g) × Sound o)
    (sym (λ i. record { groove = g; stage = Cut; width = to_z-of_z (width_stands s.before.before.before.before.before).start i; deep = 0; cuts = p.cuts_of-cuts.result; plunge = p.cuts_of-cuts.result; steps = q.steps_of-steps.result; several = ltb 0 q.steps_of-steps.result.left }))
    (opens g p.cuts_of-cuts.result q.steps_of-steps.result s.requires p.cuts_of-cuts.ensures q.steps_of-steps.ensures (depth_stands s.before.before.before.before.before) (width_stands s.before.before.before.before.before))

pub open_spec : {M : Type 1} → statement M
open_spec = tie.close (tie.spec (λ c κs. search rules) (λ c κs. search rules) returns)
