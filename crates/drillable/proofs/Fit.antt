-- What the test of a cursor tells, part by part.
-- Assumes nothing.
use mathlib.Core.Path.{◌≡◌, ap}
use mathlib.Core.Bool.{Bool, false}
use Prim.Native.Nat.{ℕ, ◌+◌, ◌≤◌}
use Rattle.telling.proofs.Tells.{Tells}
use Rattle.bites.specs.Bites.{biting, has_zero}
use Rattle.drilling.specs.Drilling.{stroke_of}
use Rattle.bites.proofs.Rows.{no_room}
use Rattle.bores.specs.declared.Cursor.{Cursor}
use Rattle.bores.specs.Cursor.{bites_of, Ready, Sound}

-- nothing left has no bite
pub none_left : (less least bite : ℕ) → has_zero (biting less least bite 0 0) ≡ false
unfolding has_zero
none_left less least bite = ap has_zero (no_room less least bite 0)

-- the parts together
pub tells_sound : (c : Cursor) {test : Bool} → c.bore.less ≤ 100 → c.deep + c.left ≡ stroke_of c.bore → has_zero (bites_of c) ≡ false
    → Tells test (Ready c.stage c) → Tells test (Sound c)
tells_sound c part whole above ready = ((λ e. record { part = part; whole = whole; above = above; ready = ready.0 e }), (λ s. ready.1 s.ready))
