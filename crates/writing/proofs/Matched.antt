-- The state after a deed that was matched on.
-- Assumes nothing.
use mathlib.Core.Path.{◌≡◌, sym, ap}
use Rattle.state.specs.declared.State.{State}
use Rattle.deeds.specs.declared.Deed.{Deed}
use Rattle.writing.specs.Writes.{done}

pub done_by : (s : State) {d e : Deed} → d ≡ e → done s e ≡ done s d
done_by s e = ap (done s) (sym e)
