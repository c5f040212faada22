use Rattle.std.proofs.Common.{rules}
use Rattle.bores.proofs.Cursors.{drawn}
use Rattle.bores.proofs.draw_back.Goals as goal

pub returns : goal.returns
returns c = drawn _ c.requires.0 c.requires.1 (search rules) c.rapid_at-record.ensures c.at_stage-rest.ensures
