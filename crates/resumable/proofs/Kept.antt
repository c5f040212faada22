-- A plan whose deed gives way to what is kept of the block: it is a plan, and as much is left of it.
-- Assumes nothing.
use mathlib.Core.Path.{◌≡◌, refl, sym, ap}
use mathlib.Core.Bool.{Bool, true, false}
use mathlib.Core.List.{List, [], ◌∷◌}
use native.Mathlib.Omega.{arith}
use lib.ListN.{length, length-append}
use Rattle.moves.specs.declared.Record.{Record}
use Rattle.telling.proofs.Tells.{never}
use Rattle.stages.specs.Cursor.{single_of, behind_deed, from_centre, from_coolant, from_spindle, from_tool, behind_at, rest_at, rest_from, deed_row, rest_of, DueSound, Planned, Sound}
use Rattle.stages.specs.declared.Stage.{Stage}
use Rattle.stages.specs.declared.Stage.TheVariants.{Speed, Tool, Spindle, Coolant, Deed, Centre, Stop, Over}
use Rattle.stages.specs.declared.Due.{Due}
use Rattle.stages.specs.declared.Due.TheVariants.{Turning, Threading, Grooving, Drilling, Single}
use Rattle.stages.specs.declared.Plan.{Plan}
use Rattle.resumable.specs.Kept.{leads, is_lead, kept, with_deed, Fits}

-- ---- what fits, as the deed of a plan
-- what is no record of a word before the deed begins the same row, whatever the deed is
stage_alone : (p : Plan) (l m : List Record) (k : Stage) → leads k ≡ false → rest_at p l k ≡ rest_at p m k
unfolding rest_at behind_at
stage_alone p l m Speed e = absurd (never (sym e))
stage_alone p l m Tool e = absurd (never (sym e))
stage_alone p l m Spindle e = absurd (never (sym e))
stage_alone p l m Coolant e = absurd (never (sym e))
stage_alone p l m Deed e = refl
stage_alone p l m Centre e = refl
stage_alone p l m Stop e = refl
stage_alone p l m Over e = refl

alone : (p : Plan) (l m : List Record) (d : Due) → is_lead d ≡ false → rest_from p l d ≡ rest_from p m d
unfolding rest_from
alone p l m (Turning c) e = refl
alone p l m (Threading c) e = refl
alone p l m (Grooving c) e = refl
alone p l m (Drilling c) e = refl
alone p l m (Single k) e = stage_alone p l m k e

pub planned : (p : Plan) (d : Due) → Fits d → Planned (with_deed p d)
unfolding deed_row
planned p d f = record { deed = f.sound; later = λ l. alone (with_deed p d) l [] d f.deeds }

-- and what is due in it: a record of a word before the deed, or the deed itself
lead_sound : (due : Due) → is_lead due ≡ true → DueSound due
lead_sound (Turning c) e = absurd (never e)
lead_sound (Threading c) e = absurd (never e)
lead_sound (Grooving c) e = absurd (never e)
lead_sound (Drilling c) e = absurd (never e)
lead_sound (Single k) e = tt

pub whole_deed : (p : Plan) (d due : Due) → Fits d → is_lead due ≡ true → Sound (with_deed p d) due
whole_deed p d due f e = record { plan = planned p d f; due = lead_sound due e }

pub own : (p : Plan) (d : Due) → Fits d → Sound (with_deed p d) d
own p d f = record { plan = planned p d f; due = f.sound }

-- ---- as much is left where the deed gives way to what is kept
pub same_rest : (p : Plan) (d : Due) → rest_of (with_deed p (kept p.deed d)) d ≡ rest_of p d
unfolding rest_of rest_from rest_at behind_at behind_deed from_centre single_of
same_rest p (Turning c) = refl
same_rest p (Threading c) = refl
same_rest p (Grooving c) = refl
same_rest p (Drilling c) = refl
same_rest p (Single Speed) = refl
same_rest p (Single Tool) = refl
same_rest p (Single Spindle) = refl
same_rest p (Single Coolant) = refl
same_rest p (Single Deed) = refl
same_rest p (Single Centre) = refl
same_rest p (Single Stop) = refl
same_rest p (Single Over) = refl

-- ---- what is kept of a block that is opened fits
-- a row behind a record of a word before the deed would show: the deed of a plan is no such record
module _ (p : Plan) (r : Record) where
  lead_shows : (k : Stage) → leads k ≡ true → rest_at p (r ∷ []) k ≡ rest_at p [] k → ⊥
  unfolding rest_at behind_at from_tool from_spindle from_coolant
  lead_shows Speed e same = omega (arith, simp length-append at (ap length same))
  lead_shows Tool e same = omega (arith, simp length-append at (ap length same))
  lead_shows Spindle e same = omega (arith, simp length-append at (ap length same))
  lead_shows Coolant e same = omega (arith, ap length same)
  lead_shows Deed e same = never e
  lead_shows Centre e same = never e
  lead_shows Stop e same = never e
  lead_shows Over e same = never e

not_shown : (b : Bool) → (b ≡ true → ⊥) → b ≡ false
not_shown true n = absurd (n refl)
not_shown false n = refl

no_lead : (p : Plan) (d : Due) → ((l : List Record) → rest_from p l d ≡ rest_from p [] d) → is_lead d ≡ false
unfolding rest_from
no_lead p (Turning c) later = refl
no_lead p (Threading c) later = refl
no_lead p (Grooving c) later = refl
no_lead p (Drilling c) later = refl
no_lead p (Single k) later = not_shown (leads k) (λ e. lead_shows p p.own.goes k e (later (p.own.goes ∷ [])))

-- the deed of a plan
deed_fits : (p : Plan) → Planned p → Fits p.deed
unfolding deed_row
deed_fits p q = record { sound = q.deed; deeds = no_lead p p.deed q.later }

pub kept_fits : (p : Plan) (d : Due) → Sound p d → Fits (kept p.deed d)
kept_fits p (Turning c) s = record { sound = s.due; deeds = refl }
kept_fits p (Threading c) s = record { sound = s.due; deeds = refl }
kept_fits p (Grooving c) s = record { sound = s.due; deeds = refl }
kept_fits p (Drilling c) s = record { sound = s.due; deeds = refl }
kept_fits p (Single Speed) s = deed_fits p s.plan
kept_fits p (Single Tool) s = deed_fits p s.plan
kept_fits p (Single Spindle) s = deed_fits p s.plan
kept_fits p (Single Coolant) s = deed_fits p s.plan
kept_fits p (Single Deed) s = record { sound = tt; deeds = refl }
kept_fits p (Single Centre) s = record { sound = tt; deeds = refl }
kept_fits p (Single Stop) s = record { sound = tt; deeds = refl }
kept_fits p (Single Over) s = record { sound = tt; deeds = refl }
