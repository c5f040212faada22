-- THE LAW OF THE FOUR CYCLES: the depths of G84, G86, G87 and G88 add up to the stroke.
-- Assumes nothing.
use Rattle.strokes.specs.Strokes.{g84, g86, g87_88, refused, inward, records, FourCycles}
use Rattle.strokes.proofs.Turned.{turned}
use Rattle.strokes.proofs.Grooved.{grooved}
use Rattle.strokes.proofs.Drilled.{drilled}

pub depths_add_up : FourCycles
unfolding refused inward records
depths_add_up (g84 c) q = turned c q
depths_add_up (g86 g) q = grooved g q
depths_add_up (g87_88 b) q = drilled b q
