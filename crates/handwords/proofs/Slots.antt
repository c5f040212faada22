-- What is kept, by its tag, and what is due, where a record of the deed is in hand.
-- Assumes nothing.
use mathlib.Core.Path.{◌≡◌, ap, ◌∙◌}
use mathlib.Core.Bool.{true, false}
use mathlib.Core.List.{List}
use Prim.Native.Nat.{ℕ, ◌<◌}
use native.Mathlib.Omega.{arith}
use lib.Dec.{eqb}
use borrow.Author.Tests.{ne_eqb, eqb-true}
use Rattle.stages.specs.declared.Stage.{Stage}
use Rattle.stages.specs.declared.Due.{Due}
use Rattle.stages.specs.declared.Due.TheVariants.{Turning, Threading, Grooving, Drilling, Single}
use Rattle.cells.specs.Numbers.{at}
use Rattle.cyclewords.specs.Turned.{turning_tag, turning_of}
use Rattle.cyclewords.specs.Threaded.{threading_tag, threading_of}
use Rattle.cyclewords.specs.Grooved.{grooving_tag, grooving_of}
use Rattle.cyclewords.specs.Drilled.{drilling_tag, drilling_of}
use Rattle.handwords.specs.Due.{is_empty, deeds, is_deed, stage_of, slot_by, slot_of, due_from, due_by}

module _ (w : List ℕ) where
  pub slot_turning : {c : _} → at w 1 ≡ turning_tag → turning_of w ≡ c → slot_of w ≡ Turning c
  unfolding slot_of
  slot_turning t e = ap (λ (tag : ℕ). slot_by tag w) t ∙ ap Turning e

  pub slot_threading : {c : _} → at w 1 ≡ threading_tag → threading_of w ≡ c → slot_of w ≡ Threading c
  unfolding slot_of
  slot_threading t e = ap (λ (tag : ℕ). slot_by tag w) t ∙ ap Threading e

  pub slot_grooving : {c : _} → at w 1 ≡ grooving_tag → grooving_of w ≡ c → slot_of w ≡ Grooving c
  unfolding slot_of
  slot_grooving t e = ap (λ (tag : ℕ). slot_by tag w) t ∙ ap Grooving e

  pub slot_drilling : {c : _} → at w 1 ≡ drilling_tag → drilling_of w ≡ c → slot_of w ≡ Drilling c
  unfolding slot_of
  slot_drilling t e = ap (λ (tag : ℕ). slot_by tag w) t ∙ ap Drilling e

  pub slot_single : {k : Stage} → at w 1 < turning_tag → stage_of (at w 1) ≡ k → slot_of w ≡ Single k
  unfolding slot_of
  slot_single t e =
      rw (
        ne_eqb (at w 1) turning_tag (λ h. omega arith),
        ne_eqb (at w 1) threading_tag (λ h. omega arith),
        ne_eqb (at w 1) grooving_tag (λ h. omega arith),
        ne_eqb (at w 1) drilling_tag (λ h. omega arith),
      )
      (ap Single e)

  -- ---- a record of the deed is in hand
  pub deed_some : is_deed w ≡ true → is_empty w ≡ false
  deed_some e = ap (λ (u : ℕ). eqb u 0) (eqb-true (at w 0) deeds e)

  pub deed_due : (slot : Due) → is_deed w ≡ true → due_by w slot ≡ slot
  unfolding due_by
  deed_due slot e = ap (λ (u : ℕ). due_from u slot) (eqb-true (at w 0) deeds e)
