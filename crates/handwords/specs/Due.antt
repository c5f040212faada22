-- What is due, as words stand for it: the first word says what is in hand, the second is the tag of what is kept beside it, which follows.
use Rattle.std.specs.Prelude.{◌≡◌, Bool, false, cond, List, ℕ, eqb}
use Rattle.stages.specs.declared.Stage.{Stage}
use Rattle.stages.specs.declared.Stage.TheVariants.{Speed, Tool, Spindle, Coolant, Deed, Centre, Stop, Over}
use Rattle.stages.specs.declared.Due.{Due}
use Rattle.stages.specs.declared.Due.TheVariants.{Turning, Threading, Grooving, Drilling, Single}
use Rattle.resumable.specs.Kept.{kept}
use Rattle.cells.specs.Numbers.{at}
use Rattle.cyclewords.specs.Turned.{turning_tag, turning_of}
use Rattle.cyclewords.specs.Threaded.{threading_tag, threading_of}
use Rattle.cyclewords.specs.Grooved.{grooving_tag, grooving_of}
use Rattle.cyclewords.specs.Drilled.{drilling_tag, drilling_of}

-- nothing is in hand
abbrev pub is_empty : List ℕ → Bool
is_empty w = eqb (at w 0) 0

-- a record of the deed is in hand
abbrev pub deeds : ℕ
deeds = 5

abbrev pub is_deed : List ℕ → Bool
is_deed w = eqb (at w 0) deeds

-- ---- what is kept
abbrev pub stage_of : ℕ → Stage
stage_of u =
    cond
    (eqb u 0)
    Speed
    (cond (eqb u 1) Tool (cond (eqb u 2) Spindle (cond (eqb u 3) Coolant (cond (eqb u 4) Deed (cond (eqb u 5) Centre (cond (eqb u 6) Stop Over))))))

abbrev pub slot_by : ℕ → List ℕ → Due
slot_by tag w =
    cond
    (eqb tag turning_tag)
    (Turning (turning_of w))
    (cond
    (eqb tag threading_tag)
    (Threading (threading_of w))
    (cond (eqb tag grooving_tag) (Grooving (grooving_of w)) (cond (eqb tag drilling_tag) (Drilling (drilling_of w)) (Single (stage_of tag)))))

unfoldable pub slot_of : List ℕ → Due
slot_of w = slot_by (at w 1) w

-- ---- what is due
-- the record of a word before the deed, or what is kept
abbrev pub due_from : ℕ → Due → Due
due_from hand slot =
    cond
    (eqb hand 1)
    (Single Speed)
    (cond (eqb hand 2) (Single Tool) (cond (eqb hand 3) (Single Spindle) (cond (eqb hand 4) (Single Coolant) slot)))

unfoldable pub due_by : List ℕ → Due → Due
due_by w slot = due_from (at w 0) slot

-- ---- what the contracts say
-- a first word from which, with what is kept, what is due is read back
pub record Hands (hand : ℕ) (d : Due) : Type 0 where
  pub some : eqb hand 0 ≡ false
  pub back : (deed : Due) → due_from hand (kept deed d) ≡ d
