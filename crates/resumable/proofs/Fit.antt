-- What the test of what is kept tells, for a cycle and for a record that is no cycle's.
-- Assumes nothing.
use mathlib.Core.Path.{◌≡◌, refl, sym, ap, ◌∙◌}
use mathlib.Core.Bool.{Bool, true, false, not}
use Rattle.passes.specs.Cursor as turn
use Rattle.threads.specs.Cursor as thread
use Rattle.plunges.specs.Cursor as groove
use Rattle.bores.specs.Cursor as drill
use Rattle.telling.proofs.Tells.{Tells, never, tells_of}
use Rattle.stages.specs.Cursor.{DueSound}
use Rattle.stages.specs.declared.Stage.{Stage}
use Rattle.stages.specs.declared.Due.{Due}
use Rattle.stages.specs.declared.Due.TheVariants.{Turning, Threading, Grooving, Drilling, Single}
use Rattle.resumable.specs.Kept.{leads, is_lead, Fits}

-- what is no record of a word before the deed fits where it is sound
tells_deeds : (d : Due) {test : Bool} → is_lead d ≡ false → Tells test (DueSound d) → Tells test (Fits d)
tells_deeds d e t = ((λ y. record { sound = t.0 y; deeds = e }), (λ f. t.1 f.sound))

module _ {d : Due} {test : Bool} where
  pub tells_turning : {c : _} → d ≡ Turning c → Tells test (turn.Sound c) → Tells test (Fits d)
  tells_turning {c} e t = tells_of Fits e (tells_deeds (Turning c) refl t)

  pub tells_threading : {c : _} → d ≡ Threading c → Tells test (thread.Sound c) → Tells test (Fits d)
  tells_threading {c} e t = tells_of Fits e (tells_deeds (Threading c) refl t)

  pub tells_grooving : {c : _} → d ≡ Grooving c → Tells test (groove.Sound c) → Tells test (Fits d)
  tells_grooving {c} e t = tells_of Fits e (tells_deeds (Grooving c) refl t)

  pub tells_drilling : {c : _} → d ≡ Drilling c → Tells test (drill.Sound c) → Tells test (Fits d)
  tells_drilling {c} e t = tells_of Fits e (tells_deeds (Drilling c) refl t)

-- a record that is no cycle's
not_true : (b : Bool) → not b ≡ true → b ≡ false
not_true true e = absurd (never e)
not_true false e = refl

single_fits : (k : Stage) {test : Bool} → test ≡ not (leads k) → Tells test (Fits (Single k))
single_fits k is = ((λ y. record { sound = tt; deeds = not_true (leads k) (sym is ∙ y) }), (λ f. is ∙ ap not f.deeds))

pub tells_single : {d : Due} {test : Bool} {k : Stage} → d ≡ Single k → test ≡ not (leads k) → Tells test (Fits d)
tells_single {d} {test} {k} e is = tells_of Fits e (single_fits k is)
