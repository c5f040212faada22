use Rattle.std.proofs.Common.{sym, ◌∙◌, arith}
use Rattle.readback.proofs.Accepted.{has}
use Rattle.readback.proofs.read.read_record.Goals as goal

pub found_at-requires : goal.found_at-requires
found_at-requires c = has c.args.list.now c.in_ok-version.count c.in_ok-version.version (sym c.judge_list.ensures ∙ c.in_ok-version.was) c.args.k (omega arith)
