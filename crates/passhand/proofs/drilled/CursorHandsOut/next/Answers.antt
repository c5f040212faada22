use mathlib.Core.Path.{refl}
use Rattle.handing.proofs.Cursors.{drilling_next}
use Rattle.passhand.proofs.drilled.CursorHandsOut.next.Goals as goal

pub returns : goal.returns
returns c = λ p s. drilling_next p s refl c.next.ensures
