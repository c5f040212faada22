-- What is known of a block that is opened, in its parts. It serves contracts and proofs.
use Rattle.std.specs.Prelude.{◌≡◌, ℕ, ◌+◌, length}
use Rattle.moves.specs.Form.{stamped}
use Rattle.moves.specs.declared.Origin.{Origin}
use Rattle.block.specs.declared.Block.{Block}
use Rattle.taking.specs.of_writing.Writes.{done, writes}
use Rattle.taking.specs.of_verdicts.declared.Going.{Going}
use Rattle.ahead.specs.declared.Onward.{Onward}
use Rattle.taking.specs.declared.Run.{Run}
use Rattle.taking.specs.declared.Opened.{Opened}
use Rattle.taking.specs.Hands.{in_hand, HandSound}
use Rattle.taking.specs.Meets.{went_by}

-- a block that may be done, opened
pub record GoingMeets (g : Going) (b : Block) (o : Origin) (onward : Onward) (r : Run) (after : ℕ) (d : Opened) : Type 0 where
  pub came : d.done ≡ went_by onward (done g.settled g.deed) r (r.count + length (writes g.settled b g.deed)) after
  pub has : in_hand d.hand ≡ stamped o (writes g.settled b g.deed)
  pub held : HandSound d.hand
