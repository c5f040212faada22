use mathlib.Core.Path.{refl}
use Rattle.handing.proofs.Cursors.{grooving_next}
use Rattle.passhand.proofs.grooved.CursorHandsOut.next.Goals as goal

pub returns : goal.returns
returns c = λ p s. grooving_next p s refl c.next_alone.ensures
