use Rattle.std.proofs.Common.{◌+◌, ◌*◌, ◌-◌, ◌≤◌, length, arith}
use Rattle.moves.specs.Form.{record_start, record_size}
use Rattle.decimal.proofs.Writing.{kept}
use Rattle.listing.proofs.Made.{records_begin, record_next, records_made}
use Rattle.listing.proofs.Reading.{held}
use Rattle.listing.proofs.lines.put_records.Goals as goal

pub loop-k-init : goal.loop-k-init
loop-k-init c = (omega arith, records_begin c.args.out.now c.args.at c.args.list.now c.args.count (omega arith))

-- the record lies within the list
pub listed_at-listed-requires : goal.listed_at-listed-requires
listed_at-listed-requires c = held _ c.args.count c.loop-k.k c.requires.0 (omega arith)

pub put_record-next-requires : goal.put_record-next-requires
put_record-next-requires c = omega (arith, kept c.loop-k.invariant.1)

pub loop-k-preserved : goal.loop-k-preserved
loop-k-preserved c = (
  omega (arith, c.put_record-next.ensures.short),
  record_next c.args.list.now c.loop-k.k c.args.count c.loop-k.invariant.1 (omega arith) (omega (arith, kept c.loop-k.invariant.1)) c.listed_at-listed.ensures c.put_record-next.ensures.written c.put_record-next.ensures.short,
)

pub returns : goal.returns
returns c = record { written = records_made c.args.list.now c.loop-k.k c.args.count c.loop-k.invariant.1 (omega arith); short = omega arith }
