-- `moves::Record::arc` meets its contract.
use borrow.Author.Rules.{rules}
use mir.Facts.{to_z-of_z}
use Rattle.moves.specs.Kinds.{flagged}
use Rattle.moves.proofs.Record.arc.Statement.{statement}
use Rattle.moves.proofs.Record.arc.Tie as tie

arc_kind_requires : tie.Need-arc_kind-kind-requires
arc_kind_requires c κs = search rules

flag_if_requires : tie.Need-flag_if-flags-requires
flag_if_requires c κs = search rules

returns : tie.Need-returns
returns c =
    let d = c in
    let s = d in
    λ i. flagged (d.arc_kind-kind.ensures i) (c.flag_if-flags.ensures i) (to_z-of_z s.ranges.x i) (to_z-of_z s.ranges.z i) s.args.f

pub arc_spec : {M : Type 1} → statement M
arc_spec = tie.close (tie.spec arc_kind_requires flag_if_requires returns)
