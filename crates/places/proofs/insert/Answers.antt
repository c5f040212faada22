use Rattle.std.proofs.Common.{◌+◌, ◌-◌, ◌≡◌, ◌∙◌, ap, refl, take, slice_set, slice_index_or, arith}
use Rattle.places.specs.Places.{below}
use Rattle.places.proofs.Shifts.{shifted, shift_start, moved, placed}
use lib.ListN.{length-set}
use Rattle.places.proofs.insert.Goals as goal

pub loop-i-init : goal.loop-i-init
loop-i-init c = (c.below_key-at.ensures.1, omega arith, shift_start c.args.table.now c.args.count, refl)

pub loop-i-preserved : goal.loop-i-preserved
loop-i-preserved c =
    let t = c.args.table.now in
    let l = c.loop-i in
    let x = slice_index_or l.table (l.i - 1) 0 in
    let up : (l.i - 1) + 1 ≡ l.i = omega arith in (
      omega arith,
      omega arith,
      ap (λ (k : _). slice_set l.table k x) up ∙ moved t l.table l.i c.args.count (omega arith) (omega arith) c.requires.0 l.invariant.2,
      length-set l.table ((l.i - 1) + 1) x ∙ l.invariant.3,
    )

pub returns : goal.returns
returns c =
    let t = c.args.table.now in
    let l = c.loop-i in
    let at = c.below_key-at.result in
    let same : l.i ≡ at = omega arith in
    placed t l.table at c.args.count c.args.entry c.requires.0
    (l.invariant.2 ∙ ap (λ (x : _). shifted t x c.args.count) same)
    (c.below_key-at.ensures.0 c.requires.1 ∙ ap (λ (x : _). below x (take c.args.count t)) c.key_in-key.ensures)
    c.below_key-at.ensures.1
