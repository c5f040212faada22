-- A block is run with the settings of `listmoves`, and leaves what the next one asks for.
use Rattle.std.proofs.Common.{sym, ◌∙◌, subst, length}
use Rattle.moves.specs.Form.{room_of}
use Rattle.settings.specs.Known.{InRange}
use Rattle.block.specs.Worded.{Worded}
use Rattle.block.proofs.Worded.{worded}
use Rattle.block.specs.declared.ReadLine.{ReadLine}
use Rattle.trying.proofs.Carrying.{range_right, carried}
use Rattle.trying.proofs.run_line.Goals as goal

pub run_block-outcome-requires : goal.run_block-outcome-requires
run_block-outcome-requires c =
    let w = subst (λ (q : ReadLine). Worded q.block) (sym c.read_line-read.ensures) (worded c.args.line.now) in
    (c.requires.0, subst InRange (sym c.of_listmoves-set.ensures) range_right, c.requires.2.state, w, c.requires.1, c.requires.2.count)

pub returns-in-Done : goal.returns-in-Done
returns-in-Done c =
    let a = c.args in
    let d = carried a.table.now c.of_listmoves-set.result a.before.state _ (room_of (length a.buf.now)) a.before.count c.of_listmoves-set.ensures c.requires.2.state c.requires.2.count
    (sym c.run_block-outcome.ensures.result ∙ c.in-Done.is) in
    record { state = d.0; count = d.1 }
