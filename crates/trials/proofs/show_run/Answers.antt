-- What was run has no more records than there was room for.
use Rattle.std.proofs.Common.{length, arith}
use Rattle.moves.proofs.Room.{room_fits}
use Rattle.trials.proofs.show_run.Goals as goal

pub show_records-requires : goal.show_records-requires
show_records-requires g c = omega (arith, room_fits (length c.args.buf.now) c.in-Some.tried.count c.requires c.in-Some.ensures.count, c.run_lines.auto.buf)
