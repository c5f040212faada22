use mathlib.Core.Path.{◌≡◌, ap}
use Rattle.passhand.proofs.Giving.{given}
use Rattle.passhand.proofs.give.Goals as goal

pub returns : goal.returns
returns g c =
    let cycle = g.C.HandsOut in
    let a = c.args in
    let at = c.cursor_of-c.result in
    let read : cycle.due at ≡ cycle.due (cycle.read a.due.now) = ap cycle.due c.cursor_of-c.ensures in
    given a.origin a.stops a.due.now a.«record».now read (g.met.C.HandsOut.cycle at) c.is_over.ensures c.if-is_over.false (c.is_fit.ensures.sound c.if-not-is_fit.false)
    (g.met.C.HandsOut.cycle c.next-handed.result.rest) c.next-handed.ensures c.put_record.ensures c.put_behind.ensures
