use Rattle.std.proofs.Common.{◌∙◌, arith}
use Rattle.rules.proofs.Ruling.{taken_any}
use Rattle.rules.proofs.is_taken.Goals as goal

pub returns : goal.returns
returns c = c.contains.ensures.value ∙ taken_any c.args.takes c.args.i (omega arith)
