-- `moves::Record::feed` meets its contract.
use borrow.Author.Rules.{rules}
use mir.Facts.{to_z-of_z}
use Rattle.moves.specs.Kinds.{flagged}
use Rattle.moves.proofs.Record.feed.Statement.{statement}
use Rattle.moves.proofs.Record.feed.Tie as tie

flag_if_requires : tie.Need-flag_if-flags-requires
flag_if_requires c κs = search rules

returns : tie.Need-returns
returns c =
    let s = c in
    λ i. flagged 2 (c.flag_if-flags.ensures i) (to_z-of_z s.ranges.x i) (to_z-of_z s.ranges.z i) s.args.f

pub feed_spec : {M : Type 1} → statement M
feed_spec = tie.close (tie.spec flag_if_requires returns)
