-- A block is run with a table of zeros, and with what the one before it left.
use Rattle.std.proofs.Common.{sym, subst, arith}
use Rattle.settings.specs.Known.{Table}
use Rattle.trying.proofs.Carrying.{table_right}
use Rattle.trying.proofs.run_lines.Goals as goal

pub run_line-requires : goal.run_line-requires
run_line-requires c = (subst Table (sym c.no_offsets-table.ensures) table_right, omega arith, c.loop-p.invariant.1)
