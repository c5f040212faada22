use mathlib.Core.Path.{refl}
use Rattle.handing.proofs.Cursors.{threading_next}
use Rattle.passhand.proofs.threaded.CursorHandsOut.next.Goals as goal

pub returns : goal.returns
returns c = λ p s. threading_next p s refl c.next.ensures
