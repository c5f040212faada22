-- `moves::Record::speed` meets its contract.
use borrow.Author.Rules.{rules}
use mir.Facts.{to_z-of_z}
use Rattle.moves.specs.Kinds.{flagged}
use Rattle.moves.proofs.Record.speed.Statement.{statement}
use Rattle.moves.proofs.Record.speed.Tie as tie

flag_if_requires : tie.Need-flag_if-flags-requires
flag_if_requires c κs = search rules

returns : tie.Need-returns
returns c =
    let s = c in
    λ i. flagged 7 (c.flag_if-flags.ensures i) (to_z-of_z s.ranges.x i) (to_z-of_z s.ranges.z i) s.args.s

pub speed_spec : {M : Type 1} → statement M
speed_spec = tie.close (tie.spec flag_if_requires returns)
