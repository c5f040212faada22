-- One word more is laid behind those before it.
use Rattle.std.proofs.Common.{arith, ℕ, List, ◌≡◌, ◌+◌, sym, ap, ◌∙◌, refl}
use lib.ListN.{get_or, set, length-set}
use lib.Seq.{take_all}
use Rattle.octets.specs.Bytes.{laid}
use Rattle.octets.proofs.Laying.{laid_nil}
use Rattle.cells.proofs.Laying.{next_laid}
use Rattle.cells.proofs.put.put_words.Goals as goal

pub loop-i-init : goal.loop-i-init
loop-i-init c = (sym (laid_nil c.args.w.now c.args.at), refl)

pub loop-i-preserved : goal.loop-i-preserved
loop-i-preserved c =
    let l = c.loop-i in
    let at = c.args.at in
    let words = c.args.words.now in
    let x = get_or words l.i 0 in
    (ap (λ (w : List ℕ). set w (at + l.i) x) l.invariant.0 ∙ next_laid c.args.w.now at words l.i (omega arith) c.requires, length-set l.w (at + l.i) x ∙ l.invariant.1)

pub returns : goal.returns
returns c = c.loop-i.invariant.0 ∙ ap (laid c.args.w.now c.args.at) (take_all c.loop-i.i c.args.words.now (omega arith))
