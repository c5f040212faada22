use mathlib.Core.Path.{refl}
use Rattle.handing.proofs.Cursors.{turning_next}
use Rattle.passhand.proofs.turned.CursorHandsOut.next.Goals as goal

pub returns : goal.returns
returns c = λ p s. turning_next p s refl c.next.ensures
