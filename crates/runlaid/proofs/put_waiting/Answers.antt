use Rattle.std.proofs.Common.{arith, rules}
use Rattle.runwords.specs.Taken.{waiting_from}
use Rattle.runlaid.proofs.Putting.{none_put, next_laid, all_laid}
use Rattle.runlaid.proofs.put_waiting.Goals as goal

pub loop-k-init : goal.loop-k-init
loop-k-init c = (none_put c.args.words.now waiting_from, omega arith)

pub put_four-requires : goal.put_four-requires
put_four-requires c = omega (arith, c.loop-k.invariant.0.long, c.requires.0)

pub loop-k-preserved : goal.loop-k-preserved
loop-k-preserved c =
    next_laid c.args.waiting c.loop-k.k (search rules) c.requires.0 c.loop-k-test.true c.loop-k.invariant c.put_four.ensures c.waiting_words.ensures

pub returns : goal.returns
returns c = record { put = all_laid c.args.waiting c.loop-k.k (search rules) c.loop-k-test.false c.loop-k.invariant; many = search rules }
